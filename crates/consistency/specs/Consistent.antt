-- Consistent tables (document 01: "Tables are sound when"), as statements: a record for each table, over those that it
-- refers to, so that a change to one table leaves the other groups alone. Good has the clauses of a slot by itself and
-- of two.
use Rattle.std.specs.Prelude.{◌≤◌, ◌<◌, ◌≡◌, ◌≢◌}
use Rattle.base.specs.Base.{ℕ, true, false, List, length, get_or, count, file_slots, link_slots, stream_slots, open_slots, root, zero_file, zero_link, zero_open, is_directory, file_used, link_used, open_used, BareStream, zero_bare, bare_used, bare_at, namespace, FileNo, StreamNo, File, Link, Stream, Open, OpenTable, Volume}
use Rattle.sharing.specs.Sharing.{counts_of}
use Rattle.tables.specs.Tables.{file_at, stream_at, live, file_has_open, stream_has_open}
use Rattle.consistency.specs.{Relations.{type_at, link_to, has_children, stream_of, unnamed_of, climb}, Slots.{Slots, EveryTwo}, Good.{GoodFile, GoodLink, LinkNamesDiffer, GoodStream, StreamNamesDiffer, GoodOpen, HandlesDiffer, OpensAgree}}

pub record FilesConsistent (fs : List File) : Type 0 where
  pub slots : Slots file_used zero_file GoodFile file_slots fs
  pub root_directory : is_directory (type_at fs root) ≡ true

-- a used link, by the files
abbrev pub GoodLinkOf : List File → Link → Type 0
GoodLinkOf fs l = GoodLink (type_at fs l.file) (type_at fs l.parent) l

pub record LinksConsistent (fs : List File) (ls : List Link) : Type 0 where
  pub slots : Slots link_used zero_link (GoodLinkOf fs) link_slots ls
  pub root_has_none : count (link_to root) ls ≡ 0
  pub others_have_one : (f : FileNo) → f ≢ root → file_used (file_at fs f) ≡ true → count (link_to f) ls ≡ 1
  pub parents_lead_to_root : (f : FileNo) → file_used (file_at fs f) ≡ true → (n : ℕ) × (climb ls n f ≡ root)
  pub names_differ : EveryTwo link_used zero_link LinkNamesDiffer ls

-- a used stream, by the files
abbrev pub GoodStreamOf : List File → BareStream → Type 0
GoodStreamOf fs s = GoodStream (type_at fs s.file) s

-- a data file has data streams only, exactly one with the empty name; a directory has one directory stream, its name
-- empty, and no other
pub record StreamsConsistent (fs : List File) (ss : List BareStream) : Type 0 where
  pub slots : Slots bare_used zero_bare (GoodStreamOf fs) stream_slots ss
  pub one_unnamed : (f : FileNo) → file_used (file_at fs f) ≡ true → count (unnamed_of f) ss ≡ 1
  pub directories_have_one : (f : FileNo) → is_directory (type_at fs f) ≡ true → count (stream_of f) ss ≡ 1
  pub names_differ : EveryTwo bare_used zero_bare StreamNamesDiffer ss

abbrev pub open_at : List Open → ℕ → Open
open_at os i = get_or os i zero_open

-- a used open, by the streams
abbrev pub GoodOpenOf : List BareStream → ℕ → Open → Type 0
GoodOpenOf ss next o = GoodOpen (bare_at ss o.stream) next o

pub record OpensConsistent (ss : List BareStream) (next : ℕ) (os : List Open) : Type 0 where
  pub slots : Slots open_used zero_open (GoodOpenOf ss next) open_slots os
  pub next_at_least : 1 ≤ next
  pub handles_differ : EveryTwo open_used zero_open HandlesDiffer os

-- the counts of every slot, so also of a stream without opens and of a free slot, which no open names
abbrev pub CountsTrue : List Stream → List Open → Type 0
CountsTrue ss os = (s : StreamNo) → s.0 < length ss → (stream_at ss s).counts ≡ counts_of s (live os)

abbrev pub NoConflicts : List Open → Type 0
NoConflicts os = EveryTwo open_used zero_open OpensAgree os

-- the root is never marked, and a marked directory has no children
pub record MarksConsistent (fs : List File) (ls : List Link) : Type 0 where
  pub root_unmarked : (file_at fs root).delete_pending ≡ false
  pub marked_childless : (f : FileNo) → (file_at fs f).delete_pending ≡ true → has_children ls f ≡ false

-- a marked file has a live open, and a marked stream one of its own
pub record MarksHeld (fs : List File) (ss : List BareStream) (os : List Open) : Type 0 where
  pub files : (f : FileNo) → (file_at fs f).delete_pending ≡ true → file_has_open os f ≡ true
  pub streams : (s : StreamNo) → (bare_at ss s).delete_pending ≡ true → stream_has_open os s ≡ true

pub record Consistent (v : Volume) (t : OpenTable) : Type 0 where
  pub files : FilesConsistent v.files
  pub links : LinksConsistent v.files v.links
  pub streams : StreamsConsistent v.files (namespace v).streams
  pub opens : OpensConsistent (namespace v).streams v.next_handle.0 t.rows
  pub counts : CountsTrue v.streams t.rows
  pub conflicts : NoConflicts t.rows
  pub marks : MarksConsistent v.files v.links
  pub held : MarksHeld v.files (namespace v).streams t.rows
