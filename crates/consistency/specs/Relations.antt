-- How the tables refer to each other: links to files, streams to files, parents.
use Rattle.std.specs.Prelude.{◌&&◌, ◌∷◌}
use Rattle.base.specs.Base.{ℕ, zero, suc, Bool, true, false, List, [], eqb, length, within, all, any, is_empty, accounts, all_access, link_used, BareStream, bare_used, FileType, FileNo, File, Link}
use Rattle.stored_names.specs.StoredNames.{units}
use Rattle.tables.specs.Tables.{file_at}

-- the type of the file at a number
abbrev pub type_at : List File → FileNo → FileType
type_at fs f = (file_at fs f).file_type

-- a mask for each account, each within 0x1F01FF
unfoldable pub valid_masks : List ℕ → Bool
valid_masks ms = eqb (length ms) accounts && all (λ m. within m all_access) ms

-- a used link names the file
unfoldable pub link_to : FileNo → Link → Bool
link_to f l = link_used l && eqb l.file.0 f.0

-- a used link has the file as its parent; some link has, so that the file has children
unfoldable pub child_of : FileNo → Link → Bool
child_of f l = link_used l && eqb l.parent.0 f.0

unfoldable pub has_children : List Link → FileNo → Bool
has_children ls f = any (child_of f) ls

-- a used stream is the file's; and it has the empty name
unfoldable pub stream_of : FileNo → BareStream → Bool
stream_of f s = bare_used s && eqb s.file.0 f.0

unfoldable pub unnamed_of : FileNo → BareStream → Bool
unnamed_of f s = stream_of f s && is_empty (units s.name)

-- the parent of a file: that of its lowest link; of a file without a link, itself
unfoldable pub parent_of : List Link → FileNo → FileNo
parent_of [] f = f
parent_of (l ∷ ls) f = elim (link_to f l) [ true ↦ l.parent | false ↦ parent_of ls f ]

-- n steps up
unfoldable pub climb : List Link → ℕ → FileNo → FileNo
climb ls zero f = f
climb ls (suc n) f = climb ls n (parent_of ls f)

-- the root is at most n steps up
unfoldable pub reaches : List Link → ℕ → FileNo → Bool
reaches ls zero f = eqb f.0 0
reaches ls (suc n) f = elim (eqb f.0 0) [ true ↦ true | false ↦ reaches ls n (parent_of ls f) ]
