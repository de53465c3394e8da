-- Step 4: a path taken apart, with every refusal of OBJECT_NAME_INVALID. `split` and `components` are definitions of the
-- crate components.
use Rattle.std.specs.Prelude.{◌&&◌, ◌∷◌}
use Rattle.base.specs.Base.{ℕ, Bool, true, false, cond, not, List, [], Option, none, some, eqb, leb, length, is_empty, file_name_limit, stream_name_limit, path_limit, Checked, passed, refuse, ◌>>=◌, ◌>>◌, refuse_if, ObjectNameInvalid}
use Rattle.components.specs.Components.{split, components}
use Rattle.names.specs.Names.{valid_file_name, valid_stream_name}
use Rattle.units.specs.Units.{backslash, colon, data_type, equal_units}

-- the last component: its file name, its stream name, and whether it has a colon
pub record Leaf : Type 0 where
  pub file : List ℕ
  pub stream : List ℕ
  pub colon : Bool

-- the root's path has no last component: its names are empty
abbrev pub no_leaf : Leaf
no_leaf = record { file = []; stream = []; colon = false }

-- a valid path: the components before the last, and the last
pub record Path : Type 0 where
  pub parents : List (List ℕ)
  pub leaf : Leaf

unfoldable pub ends_in : ℕ → List ℕ → Bool
ends_in sign [] = false
ends_in sign (u ∷ us) = cond (is_empty us) (eqb u sign) (ends_in sign us)

-- a component by its colons: FILE, FILE:STREAM or FILE:STREAM:TYPE. One that ends in a colon, has more than two, or has
-- a type other than $DATA is none of these
unfoldable pub leaf_of : List (List ℕ) → Option Leaf
leaf_of [] = none
leaf_of (f ∷ []) = some (record { file = f; stream = []; colon = false })
leaf_of (f ∷ s ∷ []) = cond (is_empty s) none (some (record { file = f; stream = s; colon = true }))
leaf_of (f ∷ s ∷ t ∷ []) = cond (equal_units true t data_type) (some (record { file = f; stream = s; colon = true })) none
leaf_of (f ∷ s ∷ t ∷ u ∷ us) = none

-- the last component: its names are valid, and it has no colon where a directory is asked for
unfoldable pub valid_leaf : Bool → Leaf → Bool
valid_leaf wants_directory l =
    valid_file_name file_name_limit l.file
    && valid_stream_name stream_name_limit l.stream
    && not (wants_directory && l.colon)

unfoldable pub checked_leaf : Bool → Option Leaf → Checked Leaf
checked_leaf wants_directory none = refuse ObjectNameInvalid
checked_leaf wants_directory (some l) = cond (valid_leaf wants_directory l) (passed l) (refuse ObjectNameInvalid)

-- components in order, each before the last a valid file name (so without a colon)
unfoldable pub parse_components : Bool → List (List ℕ) → Checked Path
parse_components wants_directory [] = passed (record { parents = []; leaf = no_leaf })
parse_components wants_directory (c ∷ []) = do
  l ← checked_leaf wants_directory (leaf_of (split colon c))
  passed (record { parents = []; leaf = l })
parse_components wants_directory (c ∷ d ∷ ds) = do
  refuse_if (not (valid_file_name file_name_limit c)) ObjectNameInvalid
  rest ← parse_components wants_directory (d ∷ ds)
  passed (record { parents = c ∷ rest.parents; leaf = rest.leaf })

-- the path whole: not over the limit, and no trailing backslash where a file that is no directory is asked for
unfoldable pub parse_path : Bool → Bool → List ℕ → Checked Path
parse_path wants_directory wants_file path = do
  refuse_if (not (leb (length path) path_limit)) ObjectNameInvalid
  refuse_if (wants_file && ends_in backslash path) ObjectNameInvalid
  parse_components wants_directory (components path)
