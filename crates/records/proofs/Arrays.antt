-- An array by value, of any element type: the type says how long it is, and the same of each element as of a value
-- of the element type.
use Prim.Native.Nat.{ℕ, zero, suc, ◌<◌}
use denote.{Laws.Is, Array.{Array, each}, RattleType.RattleType, Shadow.shadow}
use lib.ListN.{length, get_or}
use mathlib.Core.{Path.{◌≡◌}, List.{List, [], ◌∷◌}}
use mir.Val.{Val}
use native.Mathlib.Omega.{arith}

-- x is a value of the type: some machine values stand for it
abbrev pub Holds : (R : RattleType) → R.Denot → Type 0
Holds R x = (us : List Val) × Is R x us

module _ (R : RattleType) where
  each_holds : (xs : List R.Denot) (us : List Val) → shadow (each R.Denot R.own_val xs us)
      → (i : ℕ) (d : R.Denot) → i < length xs → Holds R (get_or xs i d)
  each_holds [] us s i d h = absurd (omega arith)
  each_holds (x ∷ xs) [] s i d h = absurd s
  each_holds (x ∷ xs) (u ∷ us) s zero d h = (u ∷ [], s.0)
  each_holds (x ∷ xs) (u ∷ us) s (suc i) d h = each_holds xs us s.1 i d (omega arith)

  module _ (n : ℕ) (xs : List R.Denot) (vs : List Val) (good : Is (Array R n) xs vs) where
    pub array_length : length xs ≡ n
    array_length = good.1.0.1

    pub array_element : (i : ℕ) (d : R.Denot) → i < length xs → Holds R (get_or xs i d)
    array_element = each_holds xs good.0 good.1.1
