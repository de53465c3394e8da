-- Every element against all the others, also those equal to it: where the order of two doesn't matter, that is every pair.
use mathlib.Core.{Path.{◌≡◌, refl, sym, ◌∙◌, ap}, Bool.{Bool, true, ◌&&◌, and-true, and-false}, List.{List, [], ◌∷◌, ◌++◌, append-nil}}
use Rattle.lists.proofs.{Tests.{by_cases, and_left, and_right, and_both}, Permutations.{perm_refl, perm_middle, perm_pairs}}
use Rattle.lists.specs.Lists.{all, pairs, Permutation, both}

-- all of a list pass: those in front do
all_front : {A : Type 0} (q : A → Bool) (xs ys : List A) → all q (xs ++ ys) ≡ true → all q xs ≡ true
unfolding all
all_front q [] ys h = refl
all_front q (x ∷ xs) ys h =
    and_both (and_left (q x) (all q (xs ++ ys)) h) (all_front q xs ys (and_right (q x) (all q (xs ++ ys)) h))

module _ {A : Type 0} (r : A → A → Bool) (s : (x y : A) → r x y ≡ r y x) (p : A → Bool) (xs : List A)
    (others : (x : A) (rest : List A) → Permutation xs (x ∷ rest) → p x ≡ all (r x) rest) where
  -- every two of those in front, and each of those left against all the others: every two of all
  passed_left : (zs ys : List A) → Permutation xs (zs ++ ys) → (pairs r zs && all p ys) ≡ pairs r xs
  unfolding all pairs
  passed_left zs [] h = and-true (pairs r zs) ∙ sym (perm_pairs r s h ∙ ap (pairs r) (append-nil zs))
  passed_left zs (y ∷ ys) h =
      by_cases (p y)
      (λ e. rw e (rw (all_front (r y) zs ys (sym (others y (zs ++ ys) first) ∙ e)) at (passed_left (y ∷ zs) ys first)))
      (λ e. rw e (and-false (pairs r zs) ∙ sym (perm_pairs r s first ∙ rw (← others y (zs ++ ys) first, e))))
    where
      first : Permutation xs (y ∷ (zs ++ ys))
      first = both h (perm_middle zs y ys)

  pub all_others : all p xs ≡ pairs r xs
  unfolding pairs
  all_others = passed_left [] xs (perm_refl xs)
