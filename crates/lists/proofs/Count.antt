-- How many elements pass.
use Prim.Native.Nat.{ℕ, suc, ◌+◌, ◌≤◌}
use borrow.Author.Tests.{eqb-true, eqb-false, ne_eqb, lt-ltb, le-ltb, not-false}
use lib.{Dec.{eqb, ltb}, ListN.{length, get_or}}
use mathlib.Core.{Path.{◌≡◌, refl, sym, ◌∙◌, ap}, Bool.{Bool, true, false, not, ◌&&◌}, List.{List, [], ◌∷◌}}
use native.Mathlib.Omega.{arith}
use Rattle.lists.proofs.{Tests.{by_cases, refuted, one}, Any.none_of}
use Rattle.lists.specs.Lists.{any, count}

-- one element more
module _ {A : Type 0} (p : A → Bool) (x : A) (xs : List A) where
  pub count_yes : p x ≡ true → count p (x ∷ xs) ≡ suc (count p xs)
  unfolding count
  count_yes e = rw e

  pub count_no : p x ≡ false → count p (x ∷ xs) ≡ count p xs
  unfolding count
  count_no e = rw e

  pub count_add : count p (x ∷ xs) ≡ count p xs + one (p x)
  unfolding count
  count_add = by_cases (p x) (λ e. rw e (omega arith)) (λ e. rw e (omega arith))

module _ {A : Type 0} (p : A → Bool) where
  pub count_bound : (xs : List A) → count p xs ≤ length xs
  unfolding count
  count_bound [] = omega arith
  count_bound (x ∷ xs) =
      let h = count_bound xs in by_cases (p x) (λ e. rw e (omega arith)) (λ e. rw e (omega arith))

  -- some element passes exactly where the count isn't zero
  pub count_some : (xs : List A) → not (eqb (count p xs) 0) ≡ any p xs
  unfolding count any
  count_some [] = refl
  count_some (x ∷ xs) =
      by_cases (p x) (λ e. rw e (ap not (ne_eqb (suc (count p xs)) 0 (λ z. let w : ⊥ = omega arith in w))))
      (λ e. rw e (count_some xs))

  pub any-count : (xs : List A) → any p xs ≡ false → count p xs ≡ 0
  any-count xs h = eqb-true (count p xs) 0 (not-false (eqb (count p xs) 0) (count_some xs ∙ h))

  -- none passes at any place
  pub count_none : (d : A) (xs : List A) → ((i : ℕ) → p (get_or xs i d) ≡ true → ⊥) → count p xs ≡ 0
  count_none d xs h = any-count xs (none_of p d xs (λ i b. refuted (p (get_or xs i d)) (h i)))

-- more of them where one more passes
more : (m n : ℕ) → ltb m (m + n) ≡ not (eqb n 0)
more m n =
    by_cases (eqb n 0) (λ e. rw e (le-ltb m (m + n) (omega (arith, eqb-true n 0 e))))
    (λ e. rw e (lt-ltb m (m + n) (omega (arith, eqb-false n 0 e))))

-- two tests, of which one implies the other: it passes less often exactly where some element passes the other test only
module _ {A : Type 0} (p q : A → Bool) (i : (x : A) → q x ≡ true → p x ≡ true) where
  count-split : (xs : List A) → count p xs ≡ count q xs + count (λ x. p x && not (q x)) xs
  unfolding count
  count-split [] = refl
  count-split (x ∷ xs) =
      let h = count-split xs in
      by_cases (q x) (λ e. rw (e, i x e) (omega arith)) (λ e. rw e (by_cases (p x) (λ f. rw f (omega arith)) (λ f. rw f h)))

  pub count_fewer : (xs : List A) → ltb (count q xs) (count p xs) ≡ any (λ x. p x && not (q x)) xs
  count_fewer xs =
      ap (ltb (count q xs)) (count-split xs)
      ∙ more (count q xs) (count (λ x. p x && not (q x)) xs)
      ∙ count_some (λ x. p x && not (q x)) xs

module _ {A : Type 0} where
  -- some element fails exactly where fewer pass than there are
  pub count_short : (p : A → Bool) (xs : List A) → any (λ x. not (p x)) xs ≡ ltb (count p xs) (length xs)
  unfolding count
  count_short p xs = sym (count_fewer (λ x. true) p (λ x e. refl) xs) ∙ ap (ltb (count p xs)) (everyone xs)
    where
      everyone : (ys : List A) → count (λ y. true) ys ≡ length ys
      everyone [] = refl
      everyone (y ∷ ys) = ap suc (everyone ys)

  -- two lists whose places pass alike
  pub count_places : (p : A → Bool) (d : A) (xs ys : List A) → length xs ≡ length ys
      → ((i : ℕ) → p (get_or xs i d) ≡ p (get_or ys i d)) → count p xs ≡ count p ys
  unfolding count
  count_places p d [] [] l h = refl
  count_places p d [] (y ∷ ys) l h = absurd (let z : ⊥ = omega arith in z)
  count_places p d (x ∷ xs) [] l h = absurd (let z : ⊥ = omega arith in z)
  count_places p d (x ∷ xs) (y ∷ ys) l h = rw (h 0, count_places p d xs ys (omega arith) (λ i. h (suc i)))
