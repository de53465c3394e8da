-- Where no key stands already before its own place, the keys are distinct.
use Rattle.base.{specs.Base.{ℕ, zero, suc, ◌+◌, ◌≤◌, ◌<◌, ◌≡◌, true, false, List, length, get_or, eqb, keep, pairs}, proofs.Laws.{ℕ_discrete, refl, ⊎_elim, arith, eq-eqb, ne_eqb, eqb-true, not_both, refuted, not_is, not_isn't, or_cases, or_neither, pairs_keep_at, pairs_keep_of}}
use Rattle.distinct.specs.{Keys.{is_key, differ}, Buckets.found}

-- a number as the code tests it
pub is_key_lem : (k : ℕ) → (k ≡ 0 → ⊥) → is_key k ≡ true
unfolding is_key
is_key_lem k d = not_is (ne_eqb k 0 d)

pub no_key : (k : ℕ) → k ≡ 0 → is_key k ≡ false
unfolding is_key
no_key k e = not_isn't (eq-eqb k 0 e)

module _ (keys : List ℕ) where
  -- of the keys before place i, none stands already before its own place
  abbrev pub Apart : ℕ → Type 0
  Apart i = (j : ℕ) → j < i → is_key (get_or keys j 0) ≡ true → found keys (get_or keys j 0) j ≡ false

  found_some : (k i : ℕ) → found keys k i ≡ true → (j : ℕ) × (j < i) × (get_or keys j 0 ≡ k)
  unfolding found
  found_some k zero h = absurd (not_both h refl)
  found_some k (suc i) h =
      ⊎_elim (λ e. (i, omega arith, eqb-true (get_or keys i 0) k e))
      (λ e. let q = found_some k i e in (q.0, omega (arith, q.1), q.2)) (or_cases (eqb (get_or keys i 0) k) (found keys k i) h)

  found_none : (k i : ℕ) → found keys k i ≡ false → (j : ℕ) → j < i → eqb (get_or keys j 0) k ≡ false
  unfolding found
  found_none k zero h j b = absurd (let z : ⊥ = omega arith in z)
  found_none k (suc i) h j b =
      let n = or_neither (eqb (get_or keys i 0) k) (found keys k i) h in
      elim (ℕ_discrete j i) [
        | yes e ↦ rw e n.0
        | no d ↦ found_none k i n.1 j (omega arith)
      ]

  pub apart_none : Apart 0
  apart_none j b = absurd (let z : ⊥ = omega arith in z)

  module _ (i : ℕ) where
    pub apart_past : Apart i → (is_key (get_or keys i 0) ≡ true → found keys (get_or keys i 0) i ≡ false) → Apart (i + 1)
    apart_past a n j b u =
        elim (ℕ_discrete j i) [
          | yes e ↦ rw e (n (rw e at u))
          | no d ↦ a j (omega arith) u
        ]

    pub distinct_all : length keys ≤ i → Apart i → pairs differ (keep is_key keys) ≡ true
    unfolding differ
    distinct_all l a =
        pairs_keep_of is_key differ 0 keys
        (λ j k b c u v. not_is (found_none (get_or keys k 0) k (a k (omega arith) v) j b))

    pub distinct_not : i < length keys → is_key (get_or keys i 0) ≡ true → found keys (get_or keys i 0) i ≡ true
        → pairs differ (keep is_key keys) ≡ false
    unfolding differ
    distinct_not b u f =
        let q = found_some (get_or keys i 0) i f in
        refuted _
        (λ h.
        not_both (pairs_keep_at is_key differ 0 keys h q.0 i q.1 b (rw q.2 u) u)
        (not_isn't (eq-eqb (get_or keys q.0 0) (get_or keys i 0) q.2)))
