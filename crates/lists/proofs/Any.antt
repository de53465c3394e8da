-- Some element passes.
use Prim.Native.Nat.{ℕ, zero, suc, ◌+◌, ◌≤◌, ◌<◌}
use lib.ListN.{length, get_or, set, drop, drop_of_length-le}
use mathlib.Core.{Path.{◌≡◌, refl, ◌∙◌, ap, ap₂}, Bool.{Bool, true, false, not, ◌&&◌, ◌||◌, false≢true}, List.{List, [], ◌∷◌}, Logic.⊎_elim}
use native.Mathlib.Omega.{arith}
use Rattle.lists.proofs.{Tests.{refuted, not_both, or_cases, or_left, or_right, or_neither}, Places.drop_next}
use Rattle.lists.specs.Lists.{all, any}

-- at a place
module _ {A : Type 0} (p : A → Bool) (d : A) where
  pub any_at : (xs : List A) → any p xs ≡ true → (i : ℕ) × (i < length xs) × (p (get_or xs i d) ≡ true)
  unfolding any
  any_at [] h = absurd (false≢true h)
  any_at (x ∷ xs) h =
      ⊎_elim (λ e. (0, omega arith, e)) (λ e. let r = any_at xs e in (suc r.0, omega (arith, r.1), r.2))
      (or_cases (p x) (any p xs) h)

  pub any_of : (xs : List A) (i : ℕ) → i < length xs → p (get_or xs i d) ≡ true → any p xs ≡ true
  unfolding any
  any_of [] i b e = absurd (let z : ⊥ = omega arith in z)
  any_of (x ∷ xs) zero b e = or_left (any p xs) e
  any_of (x ∷ xs) (suc i) b e = or_right (p x) (any_of xs i (omega arith) e)

  -- at no place
  pub any_fails : (xs : List A) → any p xs ≡ false → (i : ℕ) → i < length xs → p (get_or xs i d) ≡ false
  any_fails xs h i b = refuted (p (get_or xs i d)) (λ e. not_both (any_of xs i b e) h)

  pub none_of : (xs : List A) → ((i : ℕ) → i < length xs → p (get_or xs i d) ≡ false) → any p xs ≡ false
  none_of xs h = refuted (any p xs) (λ e. let r = any_at xs e in not_both r.2 (h r.0 r.1))

-- one step, and the end
module _ {A : Type 0} (p : A → Bool) (xs : List A) (i : ℕ) where
  pub any_here : (d : A) → i < length xs → p (get_or xs i d) ≡ true → any p (drop i xs) ≡ true
  unfolding any
  any_here d h e = rw (drop_next xs i d h, e)

  pub any_next : (d : A) → i < length xs → p (get_or xs i d) ≡ false → any p (drop i xs) ≡ any p (drop (i + 1) xs)
  unfolding any
  any_next d h e = rw (drop_next xs i d h, e)

  pub any_none : length xs ≤ i → any p (drop i xs) ≡ false
  unfolding any
  any_none h = rw (drop_of_length-le xs h)

module _ {A : Type 0} where
  -- one of two tests
  pub any_or : (p q : A → Bool) (xs : List A) → any (λ x. p x || q x) xs ≡ (any p xs || any q xs)
  unfolding any
  any_or p q [] = refl
  any_or p q (x ∷ xs) = ap (λ (b : Bool). (p x || q x) || b) (any_or p q xs) ∙ go (p x) (q x) (any p xs) (any q xs)
    where
      go : (a b c d : Bool) → ((a || b) || (c || d)) ≡ ((a || c) || (b || d))
      go true b c d = refl
      go false true true d = refl
      go false true false d = refl
      go false false c d = refl

  -- a test that is the same for every element
  pub any_and : (b : Bool) (p : A → Bool) (xs : List A) → any (λ x. b && p x) xs ≡ (b && any p xs)
  unfolding any
  any_and true p xs = refl
  any_and false p [] = refl
  any_and false p (x ∷ xs) = any_and false p xs

  -- none passes: every one fails
  pub all_not : (p : A → Bool) (xs : List A) → all (λ x. not (p x)) xs ≡ not (any p xs)
  unfolding all any
  all_not p [] = refl
  all_not p (x ∷ xs) = rw (all_not p xs) (go (p x) (any p xs))
    where
      go : (a b : Bool) → (not a && not b) ≡ not (a || b)
      go true b = refl
      go false b = refl

  -- two tests that agree, and a test that implies another
  pub any_same : (p q : A → Bool) → ((x : A) → p x ≡ q x) → (xs : List A) → any p xs ≡ any q xs
  unfolding any
  any_same p q i [] = refl
  any_same p q i (x ∷ xs) = rw (i x, any_same p q i xs)

  pub none_too : (p q : A → Bool) → ((x : A) → p x ≡ false → q x ≡ false) → (xs : List A) → any p xs ≡ false → any q xs ≡ false
  unfolding any
  none_too p q i [] h = refl
  none_too p q i (x ∷ xs) h =
      let n = or_neither (p x) (any p xs) h in
      ap₂ (λ (a b : Bool). a || b) (i x n.0) (none_too p q i xs n.1)

  -- no element passes, and one that fails is set
  pub none_set : (p : A → Bool) (xs : List A) (i : ℕ) (y : A) → p y ≡ false → any p xs ≡ false → any p (set xs i y) ≡ false
  unfolding any
  none_set p [] i y n h = refl
  none_set p (x ∷ xs) zero y n h = ap₂ (λ (a b : Bool). a || b) n (or_neither (p x) (any p xs) h).1
  none_set p (x ∷ xs) (suc i) y n h =
      let r = or_neither (p x) (any p xs) h in ap₂ (λ (a b : Bool). a || b) r.0 (none_set p xs i y n r.1)
