-- A component that its colons do not refuse is judged by its names.
use Rattle.base.{specs.Base.{Bool, true, false, List, ℕ, Option, ◌≡◌}, proofs.Laws.{refl, sym, ◌∙◌}}
use Rattle.components.specs.{Components.split, Positions.{part_of, parents_of}}
use Rattle.units.specs.Units.{colon}
use Rattle.paths.proofs.{Judging.{checked_none, never_root, checked_some}}
use Rattle.paths.specs.{Paths.{Leaf, leaf_of}, Positions.{as_path, named, checked}, declared.{LeafParts.LeafParts, ParsedPath.{ParsedPath, TheVariants.{Invalid, Root, Named}}}}
use Rattle.paths.proofs.checked_leaf.Goals as goal

-- the last component was refused by its colons; it is never the root
other : (path : List ℕ) (wants_directory : Bool) (parents : List (List ℕ)) (x : Option Leaf) (r : ParsedPath) → ((l : LeafParts) → r ≡ Named l → ⊥) → as_path path r ≡ named parents x → as_path path Invalid ≡ checked wants_directory parents x
unfolding as_path
other path wants_directory parents x Invalid unnamed e = checked_none wants_directory parents x e
other path wants_directory parents x Root unnamed e = never_root wants_directory parents x e
other path wants_directory parents x (Named l) unnamed e = absurd (unnamed l refl)

pub returns-in_default : goal.returns-in_default
returns-in_default c =
    let s = c.args in
    record {
      is = other s.path.now s.wants_directory (parents_of s.path.now s.component) (leaf_of (split colon (part_of s.path.now s.component))) c.leaf_parts-parsed.result c.in_default.not-Named c.leaf_parts-parsed.ensures.is;
      places = λ within. tt;
    }

pub returns-then-valid_leaf : goal.returns-then-valid_leaf
unfolding as_path
returns-then-valid_leaf c =
    let s = c.args in
    record {
      is = checked_some s.wants_directory (parents_of s.path.now s.component) _ (leaf_of (split colon (part_of s.path.now s.component))) _ true c.in-Named.ensures.is (sym c.if-valid_leaf.true ∙ c.valid_leaf.ensures);
      places = c.in-Named.ensures.places;
    }

pub returns : goal.returns
unfolding as_path
returns c =
    let s = c.args in
    record {
      is = checked_some s.wants_directory (parents_of s.path.now s.component) _ (leaf_of (split colon (part_of s.path.now s.component))) _ false c.in-Named.ensures.is (sym c.if-valid_leaf.false ∙ c.valid_leaf.ensures);
      places = λ within. tt;
    }
