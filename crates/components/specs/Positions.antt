-- Step 4: positions in a path, as the code finds them.
use Rattle.std.specs.Prelude.{◌+◌, ◌≤◌, ◌∷◌}
use Rattle.base.specs.Base.{ℕ, suc, Bool, not, cond, List, [], eqb, length, take, drop, slice}
use Rattle.units.specs.Units.{backslash}
use Rattle.components.specs.{Components.components, declared.Part.Part}

-- how many elements pass before the first that fails
unfoldable pub leading : (ℕ → Bool) → List ℕ → ℕ
leading p [] = 0
leading p (u ∷ us) = cond (p u) (suc (leading p us)) 0

abbrev pub is_sign : ℕ → ℕ → Bool
is_sign sign u = eqb u sign

abbrev pub no_sign : ℕ → ℕ → Bool
no_sign sign u = not (eqb u sign)

-- the first place from `at` on that holds the sign, and the first that does not; the end where there is none
unfoldable pub place_of : ℕ → List ℕ → ℕ → ℕ
place_of sign us at = at + leading (no_sign sign) (drop at us)

unfoldable pub place_after : ℕ → List ℕ → ℕ → ℕ
place_after sign us at = at + leading (is_sign sign) (drop at us)

-- the units of a part
unfoldable pub part_of : List ℕ → Part → List ℕ
part_of us p = slice p.start p.end us

-- a part whose places are places of the units
pub record Within (us : List ℕ) (p : Part) : Type 0 where
  pub ordered : p.start ≤ p.end
  pub inside : p.end ≤ length us

-- the first component from `at` on; an empty part where there is none
unfoldable pub next_component : List ℕ → ℕ → Part
next_component path at =
    let start = place_after backslash path at in
    record { start = start; end = place_of backslash path start }

-- the components before a part of the path
abbrev pub parents_of : List ℕ → Part → List (List ℕ)
parents_of path p = components (take p.start path)
