-- What the definitions answer, as the code's answers.
use Rattle.base.specs.Base.{ℕ, Bool, List, Option, none, some, Namespace, Checked, passed, ◌>>=◌, FileNo, LinkNo}
use Rattle.components.specs.Positions.{parents_of}
use Rattle.paths.specs.{Paths.{Path, Leaf, no_leaf}, Positions.{as_leaf, as_path}, declared.{LeafParts.LeafParts, ParsedPath.{ParsedPath, TheVariants.{Invalid, Root, Named}}}}
use Rattle.lookup.specs.{Lookup.{find_link, descend, Place, found, missing, found_root, locate}, declared.{Located.Located, Walked.Walked}}
use Rattle.lookup.specs.declared.Walked.TheVariants as End

-- the walk's last step, in the directory that it came to
unfoldable pub last_step : FileNo → Option LinkNo → Walked
last_step dir none = End.Missing dir
last_step dir (some l) = End.Link l

-- the walk from a directory through the components before the last, and the last component's name
unfoldable pub walked_from : Namespace → Bool → FileNo → List (List ℕ) → List ℕ → Checked Walked
walked_from ns fold from parents name = do
  dir ← descend ns fold from parents
  passed (last_step dir (find_link ns fold dir name))

-- the path that its last component's places stand for
abbrev pub path_to : List ℕ → LeafParts → Path
path_to path l = record { parents = parents_of path l.file; leaf = as_leaf path l }

-- the last component's names; a path without one has none, and is never missing
unfoldable pub leaf_names : List ℕ → ParsedPath → Leaf
leaf_names path Invalid = no_leaf
leaf_names path Root = no_leaf
leaf_names path (Named l) = as_leaf path l

-- where a parsed path leads
unfoldable pub locate_parsed : Namespace → Bool → List ℕ → ParsedPath → Checked Place
locate_parsed ns fold path parsed = do
  p ← as_path path parsed
  locate ns fold p

-- the code's answer, as the definition's: the names that are missing are the last component's
unfoldable pub as_place : Leaf → Located → Place
as_place leaf Located.Root = found_root
as_place leaf (Located.Found l f) = found (record { link = some l; file = f })
as_place leaf (Located.Missing dir) = missing dir leaf
