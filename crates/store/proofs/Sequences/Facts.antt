-- The facts that pass between the parts of the proof: what a consistent namespace is, what a pending open may rely on, and
-- what its placing leaves.
use Rattle.base.specs.Base.{suc, ℕ, any, Refusal, BareStream, Namespace, bare_at, bare_used, namespace, status_number, file_name_limit, stream_name_limit, file_used, is_data, is_directory, File, FileNo, Open, OpenTable, FileCorruptError, SharingViolation, Status, StreamNo, Volume, root, eqb, length, Bool, false, true, List, [], some, ◌≡◌, ◌≢◌}
use Rattle.consistency.specs.{Consistent.{Consistent, FilesConsistent, GoodOpenOf, LinksConsistent, StreamsConsistent, MarksConsistent}, Good.{GoodAttributes, GoodFile, GoodTerms}}
use Rattle.lookup.specs.Lookup.{link_matches}
use Rattle.names.specs.Names.{valid_file_name, valid_stream_name}
use Rattle.paths.specs.Paths.{Leaf}
use Rattle.stream_lookup.specs.StreamLookup.{stream_matches}
use Rattle.tables.specs.Tables.{file_at}
use Rattle.store.specs.{Complete.{Placed, changed}, Prepare.{Creation, Existing, Pending, creating, existing, new_file, new_stream}}

-- the groups of consistency that do not look at the opens
pub record NamespaceConsistent (ns : Namespace) : Type 0 where
  pub files : FilesConsistent ns.files
  pub links : LinksConsistent ns.files ns.links
  pub streams : StreamsConsistent ns.files ns.streams
  pub marks : MarksConsistent ns.files ns.links

-- attributes that a data file may take
pub record AttributesFit (ns : Namespace) (f : FileNo) (a : ℕ) : Type 0 where
  pub data_file : is_data (file_at ns.files f).file_type ≡ true
  pub good : GoodAttributes false a

-- a stream that a data file may gain
pub record StreamFits (ns : Namespace) (f : FileNo) (a : ℕ) (name : List ℕ) : Type 0 where
  pub attributes : AttributesFit ns f a
  pub name_valid : valid_stream_name stream_name_limit name ≡ true
  pub fold : Bool
  pub name_new : any (stream_matches fold f name) ns.streams ≡ false

-- a file that a directory may gain
pub record FileFits (ns : Namespace) (dir : FileNo) (leaf : Leaf) (file : File) : Type 0 where
  pub parent : is_directory (file_at ns.files dir).file_type ≡ true
  pub parent_stays : (file_at ns.files dir).delete_pending ≡ false
  pub name_valid : valid_file_name file_name_limit leaf.file ≡ true
  pub fold : Bool
  pub name_new : any (link_matches fold dir leaf.file) ns.links ≡ false
  pub stream_valid : valid_stream_name stream_name_limit leaf.stream ≡ true
  pub used : file_used file ≡ true
  pub good : GoodFile file
  pub unmarked : file.delete_pending ≡ false
  pub directory_unnamed : is_directory file.file_type ≡ true → leaf.stream ≡ []

abbrev pub CreationFits : Namespace → Creation → Type 0
CreationFits ns (new_stream f leaf a) = StreamFits ns f a leaf.stream
CreationFits ns (new_file dir leaf file) = FileFits ns dir leaf file

-- an open of a stream that is there; the root's is not deleted on close
pub record ExistingFits (ns : Namespace) (deletes : Bool) (e : Existing) : Type 0 where
  pub terms : GoodTerms e.terms
  pub stream_used : bare_used (bare_at ns.streams e.stream) ≡ true
  pub stream_file : (bare_at ns.streams e.stream).file ≡ e.file
  pub attributes : (a : ℕ) → e.attributes ≡ some a → AttributesFit ns e.file a
  pub root_stays : deletes ≡ true → e.file ≢ root

abbrev pub PendingFits : Namespace → Bool → Pending → Type 0
PendingFits ns deletes (existing e) = ExistingFits ns deletes e
PendingFits ns deletes (creating c terms) = CreationFits ns c × GoodTerms terms

-- a refusal with another status
abbrev pub Other : Status → Refusal → Type 0
Other s r = eqb (status_number r.status) (status_number s) ≡ false

-- what the steps before the sharing check never refuse with, on a consistent namespace
abbrev pub Early : Refusal → Type 0
Early r = Other FileCorruptError r × Other SharingViolation r

-- how the streams before a change stand in those after it: a marked one was marked before
pub record StreamsKept (before after : List BareStream) : Type 0 where
  pub same_length : length after ≡ length before
  pub used_kept : (s : StreamNo) → bare_used (bare_at before s) ≡ true → bare_at after s ≡ bare_at before s
  pub marks_kept : (s : StreamNo) → (bare_at after s).delete_pending ≡ true → (bare_at before s).delete_pending ≡ true

-- so it is with the files
abbrev pub MarksKept : List File → List File → Type 0
MarksKept before after =
    (f : FileNo) → (file_at after f).delete_pending ≡ true → (file_at before f).delete_pending ≡ true

-- records placed: a consistent namespace again, and the open's stream is new, of a file that is not the root
pub record PlacedWell (ns : Namespace) (p : Placed) : Type 0 where
  pub after : NamespaceConsistent (changed p.change ns)
  pub kept : StreamsKept ns.streams (changed p.change ns).streams
  pub marks_kept : MarksKept ns.files (changed p.change ns).files
  pub was_free : bare_used (bare_at ns.streams p.stream) ≡ false
  pub stream_used : bare_used (bare_at (changed p.change ns).streams p.stream) ≡ true
  pub stream_file : (bare_at (changed p.change ns).streams p.stream).file ≡ p.file
  pub not_root : p.file ≢ root

-- an open that may join the opens of a table, with the next handle
pub record Joins (ss : List BareStream) (next : ℕ) (o : Open) : Type 0 where
  pub good : GoodOpenOf ss (suc next) o
  pub handle : o.handle.0 ≡ next

-- the groups of consistency that do not look at the opens, of consistent tables
pub namespace_of : {v : Volume} {t : OpenTable} → Consistent v t → NamespaceConsistent (namespace v)
unfolding namespace
namespace_of c = record { files = c.files; links = c.links; streams = c.streams; marks = c.marks }
