-- The odd numbers of the places that are not zero: their sum is the square of how many they are exactly where these places
-- come first, which is where a name is well stored.
use Rattle.base.{specs.Base.{ℕ, zero, suc, ◌+◌, ◌*◌, ◌≤◌, ◌<◌, ◌≡◌, cond, List, [], ◌∷◌, eqb, length, get_or, drop, all}, proofs.Laws.{refl, sym, ◌∙◌, ap, arith, by_cases, eqb-true, eqb-false, eq-eqb, ne_eqb, drop_next, drop_of_length-le}}
use lib.Dec.{eqb-suc-zero}
use native.Mathlib.{Nat.{mul-zero, mul-suc, suc-mul, add-mul}}
use Rattle.stored_names.{specs.StoredNames.{units, well_stored}, proofs.StoredUnits.{is_zero, well_stored_lem}}

-- how many places are not zero
unfoldable pub counted : List ℕ → ℕ
counted [] = 0
counted (zero ∷ us) = counted us
counted (suc u ∷ us) = suc (counted us)

-- the sum of their odd numbers, the first place having the one of k
unfoldable pub odds : ℕ → List ℕ → ℕ
odds k [] = 0
odds k (zero ∷ us) = odds (k + 1) us
odds k (suc u ∷ us) = 2 * k + 1 + odds (k + 1) us

-- what the sum is above the square: for each zero twice the places after it that are not
gap : List ℕ → ℕ
gap [] = 0
gap (zero ∷ us) = gap us + 2 * counted us
gap (suc u ∷ us) = gap us

odds_gap : (k : ℕ) (us : List ℕ) → odds k us ≡ counted us * counted us + 2 * (k * counted us) + gap us
unfolding counted odds gap
odds_gap k [] = omega (arith, mul-zero k)
odds_gap k (zero ∷ us) = omega (arith, odds_gap (k + 1) us, add-mul k 1 (counted us))
odds_gap k (suc u ∷ us) =
    let c = counted us in
    omega (arith, odds_gap (k + 1) us, add-mul k 1 c, mul-suc (suc c) c, suc-mul c c, mul-suc k c)

-- no gap where all is zero
none_counted : (us : List ℕ) → eqb (counted us) 0 ≡ all is_zero us
unfolding counted all
none_counted [] = refl
none_counted (zero ∷ us) = none_counted us
none_counted (suc u ∷ us) = rw (eqb-suc-zero u, eqb-suc-zero (counted us))

none_gap : (us : List ℕ) → counted us ≡ 0 → gap us ≡ 0
unfolding counted gap
none_gap [] e = refl
none_gap (zero ∷ us) e = omega (arith, none_gap us e)
none_gap (suc u ∷ us) e = absurd (let z : ⊥ = omega arith in z)

gap_stored : (us : List ℕ) → eqb (gap us) 0 ≡ all is_zero (drop (length (units us)) us)
unfolding all units gap
gap_stored [] = refl
gap_stored (zero ∷ us) =
    by_cases (eqb (counted us) 0)
    (λ p.
    let e = eqb-true (counted us) 0 p in
    eq-eqb (gap us + 2 * counted us) 0 (omega (arith, none_gap us e)) ∙ sym p ∙ none_counted us)
    (λ p.
    let e = eqb-false (counted us) 0 p in
    ne_eqb (gap us + 2 * counted us) 0 (λ z. e (omega arith)) ∙ sym p ∙ none_counted us)
gap_stored (suc u ∷ us) = gap_stored us

pub odds_stored : (n : List ℕ) → eqb (odds 0 n) (counted n * counted n) ≡ well_stored (length n) n
odds_stored n =
    by_cases (eqb (gap n) 0)
    (λ p.
    let e = eqb-true (gap n) 0 p in
    eq-eqb (odds 0 n) (counted n * counted n) (omega (arith, odds_gap 0 n)) ∙ sym p ∙ gap_stored n ∙ sym (well_stored_lem n))
    (λ p.
    let e = eqb-false (gap n) 0 p in
    ne_eqb (odds 0 n) (counted n * counted n) (λ z. e (omega (arith, odds_gap 0 n))) ∙ sym p ∙ gap_stored n ∙ sym (well_stored_lem n))

-- one place more
counted_cons : (u : ℕ) (us : List ℕ) → counted (u ∷ us) ≡ cond (eqb u 0) 0 1 + counted us
unfolding counted
counted_cons zero us = omega arith
counted_cons (suc u) us = rw (eqb-suc-zero u) (omega arith)

odds_cons : (k u : ℕ) (us : List ℕ) → odds k (u ∷ us) ≡ cond (eqb u 0) 0 (2 * k + 1) + odds (k + 1) us
unfolding odds
odds_cons k zero us = omega arith
odds_cons k (suc u) us = rw (eqb-suc-zero u)

module _ (n : List ℕ) (i : ℕ) where
  pub counted_next : i < length n → counted (drop i n) ≡ cond (eqb (get_or n i 0) 0) 0 1 + counted (drop (i + 1) n)
  counted_next h = ap counted (drop_next n i 0 h) ∙ counted_cons (get_or n i 0) (drop (i + 1) n)

  pub odds_next : i < length n → odds i (drop i n) ≡ cond (eqb (get_or n i 0) 0) 0 (2 * i + 1) + odds (i + 1) (drop (i + 1) n)
  odds_next h = ap (odds i) (drop_next n i 0 h) ∙ odds_cons i (get_or n i 0) (drop (i + 1) n)

  pub counted_end : length n ≤ i → counted (drop i n) ≡ 0
  unfolding counted
  counted_end h = rw (drop_of_length-le n h)

  pub odds_end : length n ≤ i → odds i (drop i n) ≡ 0
  unfolding odds
  odds_end h = rw (drop_of_length-le n h)

-- a number that is counted, or not, is no larger
pub some_bound : (u k : ℕ) → cond (eqb u 0) 0 k ≤ k
some_bound u k = by_cases (eqb u 0) (λ e. rw e (omega arith)) (λ e. rw e (omega arith))
