-- Step 4: a path's components.
use Rattle.std.specs.Prelude.{◌∷◌}
use Rattle.base.specs.Base.{ℕ, cond, not, List, [], eqb, is_empty, keep}
use Rattle.units.specs.Units.{backslash}

-- the parts of a list between separators, one more than there are separators
unfoldable pub start_part : ℕ → List (List ℕ) → List (List ℕ)
start_part u [] = (u ∷ []) ∷ []
start_part u (part ∷ parts) = (u ∷ part) ∷ parts

unfoldable pub split : ℕ → List ℕ → List (List ℕ)
split sep [] = [] ∷ []
split sep (u ∷ us) = let rest = split sep us in cond (eqb u sep) ([] ∷ rest) (start_part u rest)

-- backslashes separate; empty components vanish
unfoldable pub components : List ℕ → List (List ℕ)
components path = keep (λ c. not (is_empty c)) (split backslash path)
