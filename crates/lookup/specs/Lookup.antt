-- Step 6: from a path to its file. The lowest matching slot wins. A file that is marked, whatever it is and wherever it
-- stands in the path, ends the search with DELETE_PENDING.
use Rattle.std.specs.Prelude.{◌&&◌, ◌∷◌}
use Rattle.base.specs.Base.{ℕ, Bool, true, false, List, [], Option, none, some, not, eqb, first, is_empty, root, is_directory, Namespace, Checked, passed, refuse, ◌>>=◌, ◌>>◌, refuse_if, ObjectPathNotFound, DeletePending, FileNo, LinkNo, Link}
use Rattle.paths.specs.Paths.{Path, Leaf}
use Rattle.stored_names.specs.StoredNames.{units}
use Rattle.tables.specs.Tables.{file_at, link_at}
use Rattle.units.specs.Units.{equal_units}

-- a link of the directory whose name matches. A path's names are never empty, so no free slot matches one
unfoldable pub link_matches : Bool → FileNo → List ℕ → Link → Bool
link_matches fold dir name l = eqb l.parent.0 dir.0 && equal_units fold (units l.name) name

unfoldable pub link_number : Option ℕ → Option LinkNo
link_number none = none
link_number (some n) = some (record { 0 = n })

unfoldable pub find_link : Namespace → Bool → FileNo → List ℕ → Option LinkNo
find_link ns fold dir name = link_number (first (link_matches fold dir name) ns.links)

-- a component before the last: the directory that it names
unfoldable pub step_into : Namespace → Option LinkNo → Checked FileNo
step_into ns none = refuse ObjectPathNotFound
step_into ns (some l) =
    let file = (link_at ns.links l).file in
    do
      refuse_if (file_at ns.files file).delete_pending DeletePending
      refuse_if (not (is_directory (file_at ns.files file).file_type)) ObjectPathNotFound
      passed file

unfoldable pub descend : Namespace → Bool → FileNo → List (List ℕ) → Checked FileNo
descend ns fold dir [] = passed dir
descend ns fold dir (name ∷ names) = do
  next ← step_into ns (find_link ns fold dir name)
  descend ns fold next names

-- a file that a path leads to, and the link that names it there: none for the root
pub record Resolved : Type 0 where
  pub link : Option LinkNo
  pub file : FileNo

-- where a path leads: to a file, or to a directory that lacks its last name
pub data Place : Type 0 where
  found : Resolved → Place
  missing : FileNo → Leaf → Place

abbrev pub found_root : Place
found_root = found (record { link = none; file = root })

abbrev pub found_by : Namespace → LinkNo → Place
found_by ns l = found (record { link = some l; file = (link_at ns.links l).file })

unfoldable pub place_in : Namespace → FileNo → Leaf → Option LinkNo → Checked Place
place_in ns dir leaf none = passed (missing dir leaf)
place_in ns dir leaf (some l) = do
  refuse_if (file_at ns.files (link_at ns.links l).file).delete_pending DeletePending
  passed (found_by ns l)

unfoldable pub locate_leaf : Namespace → Bool → FileNo → Leaf → Checked Place
locate_leaf ns fold dir leaf = place_in ns dir leaf (find_link ns fold dir leaf.file)

-- the root's path has no last name
unfoldable pub locate : Namespace → Bool → Path → Checked Place
locate ns fold path =
    elim (is_empty path.leaf.file) [
      | true ↦ passed found_root
      | false ↦ descend ns fold root path.parents >>= (λ dir. locate_leaf ns fold dir path.leaf)
    ]
