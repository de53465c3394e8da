-- What a used slot of each table is by itself, and what two are to each other (document 01: "Tables are sound when"): a
-- field for each clause, and the same as a test. What a slot asks of a record of another table stands beside it. And of a
-- free slot, one without kind, link name or handle, the test that the rest is zero too.
use Rattle.std.specs.Prelude.{◌≤◌, ◌<◌, ◌≡◌, ◌&&◌, ◌≢◌}
use Rattle.base.specs.Base.{ℕ, Bool, true, false, not, eqb, leb, ltb, replicate, within, has, same, file_name_limit, stream_name_limit, accounts, directory, file_attributes, all_access, share_all, is_empty, root, is_used, is_directory, BareStream, bare_used, FileType, File, Link, Terms, terms_of, Open}
use Rattle.std.specs.Bool.{beq}
use Rattle.names.specs.Names.{valid_file_name, valid_stream_name}
use Rattle.sharing.specs.Sharing.{conflicting}
use Rattle.stored_names.specs.StoredNames.{units, well_stored}
use Rattle.consistency.specs.Relations.{valid_masks}

-- files: the attributes of a directory or of none; and with the masks

pub record GoodAttributes (is_dir : Bool) (attributes : ℕ) : Type 0 where
  pub attributes_within : within attributes file_attributes ≡ true
  -- attribute 0x10 exactly on directories
  pub directory_bit : has attributes directory ≡ is_dir

pub record GoodFile (f : File) : Type 0 where
  pub attributes : GoodAttributes (is_directory f.file_type) f.attributes
  pub masks_within : valid_masks f.masks ≡ true

unfoldable pub good_file : File → Bool
good_file f =
    within f.attributes file_attributes
    && beq (has f.attributes directory) (is_directory f.file_type)
    && valid_masks f.masks

unfoldable pub is_zero_file : File → Bool
is_zero_file f = eqb f.attributes 0 && same f.masks (replicate accounts 0) && not f.delete_pending

-- links, with the types of the file and of the parent

pub record GoodLink (file parent : FileType) (l : Link) : Type 0 where
  pub name_stored : well_stored file_name_limit l.name ≡ true
  pub name_valid : valid_file_name file_name_limit (units l.name) ≡ true
  pub names_used_file : is_used file ≡ true
  -- a used directory
  pub parent_directory : is_directory parent ≡ true

unfoldable pub good_link : FileType → FileType → Link → Bool
good_link file parent l =
    well_stored file_name_limit l.name
    && valid_file_name file_name_limit (units l.name)
    && is_used file
    && is_directory parent

unfoldable pub is_zero_link : Link → Bool
is_zero_link l = eqb l.parent.0 0 && eqb l.file.0 0 && same l.name (replicate file_name_limit 0)

-- no two links of one parent have equal units
abbrev pub LinkNamesDiffer : Link → Link → Type 0
LinkNamesDiffer l m = l.parent ≡ m.parent → units l.name ≢ units m.name

unfoldable pub link_names_differ : Link → Link → Bool
link_names_differ l m = not (eqb l.parent.0 m.parent.0 && same (units l.name) (units m.name))

-- streams, with the type of the file

pub record GoodStream (file : FileType) (s : BareStream) : Type 0 where
  pub name_stored : well_stored stream_name_limit s.name ≡ true
  pub name_valid : valid_stream_name stream_name_limit (units s.name) ≡ true
  pub names_used_file : is_used file ≡ true
  pub type_agrees : s.stream_type ≡ file
  -- among streams only named ones are marked
  pub marked_named : s.delete_pending ≡ true → is_empty (units s.name) ≡ false

unfoldable pub good_stream : FileType → BareStream → Bool
good_stream file s =
    well_stored stream_name_limit s.name
    && valid_stream_name stream_name_limit (units s.name)
    && is_used file
    && beq (is_directory s.stream_type) (is_directory file)
    && not (s.delete_pending && is_empty (units s.name))

unfoldable pub is_zero_stream : BareStream → Bool
is_zero_stream s =
    eqb s.file.0 0 && same s.name (replicate stream_name_limit 0) && not s.delete_pending

-- nor two streams of one file
abbrev pub StreamNamesDiffer : BareStream → BareStream → Type 0
StreamNamesDiffer s t = s.file ≡ t.file → units s.name ≢ units t.name

unfoldable pub stream_names_differ : BareStream → BareStream → Bool
stream_names_differ s t = not (eqb s.file.0 t.file.0 && same (units s.name) (units t.name))

-- opens: their terms; and with the stream and the next handle

pub record GoodTerms (t : Terms) : Type 0 where
  pub granted_nonzero : t.granted ≢ 0
  pub granted_within : within t.granted all_access ≡ true
  pub share_at_most : t.share ≤ share_all

pub record GoodOpen (s : BareStream) (next : ℕ) (o : Open) : Type 0 where
  pub names_used_stream : bare_used s ≡ true
  pub names_its_file : o.file ≡ s.file
  pub terms : GoodTerms (terms_of o)
  -- at least 1 too, since a used slot has a handle
  pub handle_below : o.handle.0 < next
  -- the root is never held by a delete-on-close open
  pub root_stays : o.delete_on_close ≡ true → o.file ≢ root

unfoldable pub good_open : BareStream → ℕ → Open → Bool
good_open s next o =
    bare_used s
    && eqb o.file.0 s.file.0
    && not (eqb o.granted 0)
    && within o.granted all_access
    && leb o.share share_all
    && ltb o.handle.0 next
    && not (o.delete_on_close && eqb o.file.0 0)

unfoldable pub is_zero_open : Open → Bool
is_zero_open o =
    eqb o.file.0 0
    && eqb o.stream.0 0
    && eqb o.granted 0
    && eqb o.share 0
    && not o.delete_on_close

-- handles are distinct
abbrev pub HandlesDiffer : Open → Open → Type 0
HandlesDiffer o q = o.handle ≢ q.handle

unfoldable pub handles_differ : Open → Open → Bool
handles_differ o q = not (eqb o.handle.0 q.handle.0)

-- two opens on one stream don't conflict
abbrev pub OpensAgree : Open → Open → Type 0
OpensAgree o q = o.stream ≡ q.stream → conflicting o q ≡ false

unfoldable pub opens_agree : Open → Open → Bool
opens_agree o q = not (eqb o.stream.0 q.stream.0 && conflicting o q)
