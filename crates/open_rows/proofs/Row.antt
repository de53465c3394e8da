-- A row that an open was stored in, and what a search of a row finds.
use Rattle.std.specs.Prelude as code
use Rattle.std.specs.Prelude.{None, Some, MatchOption}
use Rattle.std.specs.List.{AllWithin, HoldsAt, list_any}
use Rattle.base.specs.Base.{ℕ, zero, suc, ◌<◌, ◌≡◌, Bool, true, false, ◌||◌, List, [], ◌∷◌, length, get_or, set, any, first, as_option, zero_open, Open}
use Rattle.base.proofs.Laws.{refl, ap, arith}
use Rattle.open_table.proofs.Asked.{lowest_is}

-- a row has from then on what was stored there; past its end, what stands for none
pub held : (xs : List Open) (i : ℕ) (o : Open) → get_or (set xs i o) i o ≡ o
held [] i o = refl
held (x ∷ xs) zero o = refl
held (x ∷ xs) (suc i) o = held xs i o

module _ (test : Open → Bool) where
  -- some open of the row passes
  pub any_is : (os : List Open) → list_any test os ≡ any test os
  unfolding any
  any_is [] = refl
  any_is (o ∷ os) = ap (λ (b : Bool). test o || b) (any_is os)

  -- the first that passes
  pub first_is : (os : List Open) (r : code.Option ℕ)
      → MatchOption r (AllWithin (λ o. test o ≡ false) os 0 (length os)) (λ i. (i < length os) × HoldsAt (λ o. test o ≡ true) os i × AllWithin (λ o. test o ≡ false) os 0 i)
      → as_option r ≡ first test os
  first_is os None h = lowest_is test os None (λ k a b. h k zero_open a b)
  first_is os (Some i) h = lowest_is test os (Some i) (omega arith, h.0, h.1 zero_open, λ k a b. h.2 k zero_open a b)
