-- Step 4: what the positions found in a path stand for.
use Rattle.std.specs.Prelude.{◌≡◌}
use Rattle.base.specs.Base.{ℕ, Bool, List, [], Option, none, some, Checked, passed, refuse, ◌>>=◌, ObjectNameInvalid}
use Rattle.components.specs.Positions.{part_of, parents_of, Within}
use Rattle.paths.specs.{Paths.{Leaf, no_leaf, Path, checked_leaf}, declared.{LeafParts.LeafParts, ParsedPath.{ParsedPath, TheVariants.{Invalid, Root, Named}}}}

-- what the places found stand for
unfoldable pub as_leaf : List ℕ → LeafParts → Leaf
as_leaf path l = record { file = part_of path l.file; stream = part_of path l.stream; colon = l.colon }

unfoldable pub as_path : List ℕ → ParsedPath → Checked Path
as_path path Invalid = refuse ObjectNameInvalid
as_path path Root = passed (record { parents = []; leaf = no_leaf })
as_path path (Named l) = passed (record { parents = parents_of path l.file; leaf = as_leaf path l })

-- the places found are places of the path
pub record LeafWithin (path : List ℕ) (l : LeafParts) : Type 0 where
  pub file : Within path l.file
  pub stream : Within path l.stream

abbrev pub PlacesWithin : List ℕ → ParsedPath → Type 0
PlacesWithin path Invalid = Unit
PlacesWithin path Root = Unit
PlacesWithin path (Named l) = LeafWithin path l

-- a path taken apart: it is the definition's, and its places are places of the path
pub record Parsed (path : List ℕ) (r : ParsedPath) (p : Checked Path) : Type 0 where
  pub is : as_path path r ≡ p
  pub places : PlacesWithin path r

-- parts of a path taken apart: whatever they are it is the definition's, and its places are places of the path where
-- theirs are
pub record ParsedParts (inside : Type 0) (path : List ℕ) (r : ParsedPath) (p : Checked Path) : Type 0 where
  pub is : as_path path r ≡ p
  pub places : inside → PlacesWithin path r

-- a last component after the components given, before its names are judged and after
unfoldable pub named : List (List ℕ) → Option Leaf → Checked Path
named parents none = refuse ObjectNameInvalid
named parents (some l) = passed (record { parents = parents; leaf = l })

unfoldable pub checked : Bool → List (List ℕ) → Option Leaf → Checked Path
checked wants_directory parents l = do
  valid ← checked_leaf wants_directory l
  passed (record { parents = parents; leaf = valid })
