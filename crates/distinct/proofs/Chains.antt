-- The chain of a bucket passes every key of the bucket: a key is found along it where it is found at all.
use Rattle.base.{specs.Base.{ℕ, zero, suc, ◌≤◌, ◌<◌, ◌≡◌, true, false, List, get_or, eqb, leb}, proofs.Laws.{refl, sym, ◌∙◌, ap, arith, eqb-true, le-leb, eq-eqb, ne_eqb, by_cases, not_both, and_left, and_right, and_both, cond_true, cond_false}}
use borrow.Author.Tests.{leb-true}
use Rattle.distinct.specs.{Keys.is_key, Buckets.{bucket_of, in_bucket, pointer_at, found, last, Chain}}

-- a key is in its own bucket
pub own_bucket : (k : ℕ) → is_key k ≡ true → in_bucket (bucket_of k) k ≡ true
own_bucket k u = and_both u (eq-eqb (bucket_of k) (bucket_of k) refl)

module _ (keys : List ℕ) where
  -- one place more
  module _ (h i : ℕ) where
    pub last_here : in_bucket h (get_or keys i 0) ≡ true → last keys h (suc i) ≡ suc i
    unfolding last
    last_here e = cond_true (suc i) (last keys h i) e

    pub last_past : in_bucket h (get_or keys i 0) ≡ false → last keys h (suc i) ≡ last keys h i
    unfolding last
    last_past e = cond_false (suc i) (last keys h i) e

  module _ (k : ℕ) {at : ℕ} (m : ℕ) (e : at ≡ suc m) where
    pub found_here : get_or keys m 0 ≡ k → found keys k at ≡ true
    unfolding found
    found_here q = rw (e, eq-eqb (get_or keys m 0) k q)

    pub found_past : (get_or keys m 0 ≡ k → ⊥) → found keys k at ≡ found keys k m
    unfolding found
    found_past d = rw (e, ne_eqb (get_or keys m 0) k d)

  pub last_below : (h i : ℕ) → last keys h i ≤ i
  unfolding last
  last_below h zero = omega arith
  last_below h (suc i) =
      by_cases (in_bucket h (get_or keys i 0)) (λ e. omega (arith, last_here h i e))
      (λ e. omega (arith, last_past h i e, last_below h i))

  pub last_points : (h i : ℕ) → last keys h (last keys h i) ≡ last keys h i
  unfolding last
  last_points h zero = refl
  last_points h (suc i) =
      by_cases (in_bucket h (get_or keys i 0)) (λ e. ap (last keys h) (last_here h i e))
      (λ e. rw (last_past h i e) (last_points h i))

  -- between the last key of its bucket and place i, k does not stand
  pub found_last : (k i : ℕ) → is_key k ≡ true → found keys k (last keys (bucket_of k) i) ≡ found keys k i
  unfolding last
  found_last k zero u = refl
  found_last k (suc i) u =
      by_cases (in_bucket (bucket_of k) (get_or keys i 0)) (λ e. ap (found keys k) (last_here (bucket_of k) i e))
      (λ e.
      ap (found keys k) (last_past (bucket_of k) i e)
      ∙ found_last k i u
      ∙ sym (found_past k i refl (λ q. not_both (rw q (own_bucket k u)) e)))

-- one step along a chain: `at` points to place m
pub record Step (keys next : List ℕ) (at m key : ℕ) : Type 0 where
  pub falls : get_or next m 0 < at
  pub rest : Chain keys next (get_or next m 0) key
  pub same : found keys key at ≡ found keys key (get_or next m 0)

module _ {keys next : List ℕ} {at key : ℕ} (m : ℕ) (e : at ≡ suc m) (c : Chain keys next at key) where
  -- a pointer points to a key of its bucket
  pointed : in_bucket (bucket_of key) (get_or keys m 0) ≡ true
  pointed =
      by_cases (in_bucket (bucket_of key) (get_or keys m 0)) (λ e. e)
      (λ n.
      absurd
      (let z : ⊥ = omega (arith, last_past keys (bucket_of key) m n, last_below keys (bucket_of key) m, rw e at c.points) in z))

  pub step : (get_or keys m 0 ≡ key → ⊥) → Step keys next at m key
  step d =
      let x = get_or keys m 0 in
      let p = pointed in
      let f : get_or next m 0 ≡ last keys (bucket_of key) m =
      c.linked m (omega arith) (and_left (is_key x) (eqb (bucket_of x) (bucket_of key)) p)
      ∙ ap (λ (h : ℕ). last keys h m) (eqb-true (bucket_of x) (bucket_of key) (and_right (is_key x) _ p)) in
      let b = last_below keys (bucket_of key) m in
      record {
        falls = omega arith;
        rest = record {
          counts = c.counts;
          in_keys = omega (arith, c.in_keys);
          in_next = omega (arith, c.in_next);
          points = rw f (last_points keys (bucket_of key) m);
          linked = λ j l. c.linked j (omega arith);
        };
        same = rw f (found_past keys key m e d ∙ sym (found_last keys key m c.counts));
      }

-- the pointer at a place leads back, and is what stands there where that does
module _ (next : List ℕ) (m : ℕ) where
  pub pointer_back : pointer_at next m ≤ m
  unfolding pointer_at
  pointer_back = by_cases (leb (get_or next m 0) m) (λ e. rw e (leb-true (get_or next m 0) m e)) (λ e. rw e (omega arith))

  pub pointer_is : get_or next m 0 ≤ m → pointer_at next m ≡ get_or next m 0
  unfolding pointer_at
  pointer_is h = rw (le-leb (get_or next m 0) m h)
