-- A list in another order: what does not depend on it.
use Prim.Native.Nat.{ℕ, zero, suc, ◌<◌}
use lib.{Dec.eqb, ListN.{length, get_or, set}}
use mathlib.Core.{Path.{◌≡◌, refl, sym, ◌∙◌, ap, ap₂, subst}, Bool.{Bool, true, false, not, ◌&&◌}, List.{List, [], ◌∷◌, ◌++◌}}
use native.Mathlib.Omega.{arith}
use Rattle.lists.proofs.{Tests.{by_cases, and_swap, and_exchange}, Count.count_some, Keep.{keep_yes, keep_no, length-keep}}
use Rattle.lists.specs.Lists.{all, any, count, keep, pairs, Permutation, nil, skip, swap, both}

module _ {A : Type 0} where
  pub perm_refl : (xs : List A) → Permutation xs xs
  perm_refl [] = nil
  perm_refl (x ∷ xs) = skip x (perm_refl xs)

  pub perm_eq : {xs ys : List A} → xs ≡ ys → Permutation xs ys
  perm_eq {xs} e = subst (λ (zs : List A). Permutation xs zs) e (perm_refl xs)

  pub perm_sym : {xs ys : List A} → Permutation xs ys → Permutation ys xs
  perm_sym nil = nil
  perm_sym (skip x h) = skip x (perm_sym h)
  perm_sym (swap x y xs) = swap y x xs
  perm_sym (both h k) = both (perm_sym k) (perm_sym h)

  pub perm_length : {xs ys : List A} → Permutation xs ys → length xs ≡ length ys
  perm_length nil = refl
  perm_length (skip x h) = ap suc (perm_length h)
  perm_length (swap x y xs) = refl
  perm_length (both h k) = perm_length h ∙ perm_length k

  module _ (p : A → Bool) where
    pub perm_keep : {xs ys : List A} → Permutation xs ys → Permutation (keep p xs) (keep p ys)
    unfolding keep
    perm_keep nil = nil
    perm_keep (skip x h) = by_cases (p x) (λ e. rw e (skip x (perm_keep h))) (λ e. rw e (perm_keep h))
    perm_keep (swap x y xs) =
        by_cases (p x)
        (λ e. by_cases (p y) (λ f. rw (e, f) (swap x y (keep p xs))) (λ f. rw (e, f) (perm_refl (x ∷ keep p xs))))
        (λ e. rw e (perm_refl (keep p (y ∷ xs))))
    perm_keep (both h k) = both (perm_keep h) (perm_keep k)

    pub perm_count : {xs ys : List A} → Permutation xs ys → count p xs ≡ count p ys
    perm_count {xs} {ys} h = sym (length-keep p xs) ∙ perm_length (perm_keep h) ∙ length-keep p ys

    pub perm_any : {xs ys : List A} → Permutation xs ys → any p xs ≡ any p ys
    perm_any {xs} {ys} h = sym (count_some p xs) ∙ ap (λ (n : ℕ). not (eqb n 0)) (perm_count h) ∙ count_some p ys

    perm_all : {xs ys : List A} → Permutation xs ys → all p xs ≡ all p ys
    unfolding all
    perm_all nil = refl
    perm_all (skip x h) = ap (λ (b : Bool). p x && b) (perm_all h)
    perm_all (swap x y xs) = and_swap (p x) (p y) (all p xs)
    perm_all (both h k) = perm_all h ∙ perm_all k

  -- a test of every pair that doesn't depend on their order doesn't depend on that of the list
  module _ (r : A → A → Bool) (s : (x y : A) → r x y ≡ r y x) where
    pub perm_pairs : {xs ys : List A} → Permutation xs ys → pairs r xs ≡ pairs r ys
    unfolding pairs all
    perm_pairs nil = refl
    perm_pairs (skip x {xs} {ys} h) = ap₂ (λ (a b : Bool). a && b) (perm_all (r x) h) (perm_pairs h)
    perm_pairs (swap x y xs) = rw (s x y) (and_exchange (r y x) (all (r x) xs) (all (r y) xs) (pairs r xs))
    perm_pairs (both h k) = perm_pairs h ∙ perm_pairs k

  -- an element from the middle
  pub perm_middle : (xs : List A) (y : A) (ys : List A) → Permutation (xs ++ y ∷ ys) (y ∷ (xs ++ ys))
  perm_middle [] y ys = perm_refl (y ∷ ys)
  perm_middle (x ∷ xs) y ys = both (skip x (perm_middle xs y ys)) (swap x y (xs ++ ys))

  -- one place set: the new list with what stood there is the old one with what is there now
  module _ (d : A) where
    pub perm_set : (xs : List A) (i : ℕ) (y : A) → i < length xs → Permutation (get_or xs i d ∷ set xs i y) (y ∷ xs)
    perm_set [] i y b = absurd (let z : ⊥ = omega arith in z)
    perm_set (x ∷ xs) zero y b = swap x y xs
    perm_set (x ∷ xs) (suc i) y b =
        both (swap (get_or xs i d) x (set xs i y)) (both (skip x (perm_set xs i y (omega arith))) (swap x y xs))

  module _ (p : A → Bool) (d : A) (xs : List A) (i : ℕ) (y : A) (b : i < length xs) where
    -- a place that failed takes a record that passes: one more is kept
    pub keep_set_in : p (get_or xs i d) ≡ false → p y ≡ true → Permutation (keep p (set xs i y)) (y ∷ keep p xs)
    keep_set_in e f =
        rw (keep_no p (get_or xs i d) (set xs i y) e, keep_yes p y xs f) at (perm_keep p (perm_set d xs i y b))

    -- a place that passed takes one that fails: what stood there goes
    pub keep_set_gone : p (get_or xs i d) ≡ true → p y ≡ false → Permutation (keep p xs) (get_or xs i d ∷ keep p (set xs i y))
    keep_set_gone e f =
        perm_sym (rw (keep_yes p (get_or xs i d) (set xs i y) e, keep_no p y xs f) at (perm_keep p (perm_set d xs i y b)))
