-- Every element passes against every later one.
use Prim.Native.Nat.{ℕ, zero, suc, ◌+◌, ◌≤◌, ◌<◌}
use lib.ListN.{length, get_or, drop}
use mathlib.Core.{Path.{◌≡◌, refl, sym, ◌∙◌, ap, ap₂}, Bool.{Bool, true, false, not, ◌&&◌, ◌||◌}, List.{List, [], ◌∷◌, map}}
use native.Mathlib.Omega.{arith}
use Rattle.lists.proofs.{Tests.{by_cases, and_left, and_right, and_both, guarded, guard}, All.{all_at, all_of, all_map}, Keep.{all_keep, kept_here, kept_past, kept_end}}
use Rattle.lists.specs.Lists.{all, pairs, keep}

-- at every two places
module _ {A : Type 0} (r : A → A → Bool) (d : A) where
  pub pairs_at : (xs : List A) → pairs r xs ≡ true → (i j : ℕ) → i < j → j < length xs → r (get_or xs i d) (get_or xs j d) ≡ true
  unfolding pairs
  pairs_at [] h i j a b = absurd (let z : ⊥ = omega arith in z)
  pairs_at (x ∷ xs) h i zero a b = absurd (let z : ⊥ = omega arith in z)
  pairs_at (x ∷ xs) h zero (suc j) a b = all_at (r x) d xs (and_left (all (r x) xs) (pairs r xs) h) j (omega arith)
  pairs_at (x ∷ xs) h (suc i) (suc j) a b = pairs_at xs (and_right (all (r x) xs) (pairs r xs) h) i j (omega arith) (omega arith)

  pairs_of : (xs : List A) → ((i j : ℕ) → i < j → j < length xs → r (get_or xs i d) (get_or xs j d) ≡ true) → pairs r xs ≡ true
  unfolding pairs
  pairs_of [] h = refl
  pairs_of (x ∷ xs) h =
      and_both (all_of (r x) d xs (λ j b. h 0 (suc j) (omega arith) (omega arith)))
      (pairs_of xs (λ i j a b. h (suc i) (suc j) (omega arith) (omega arith)))

-- the same among those kept: a test of every two of them is a test of every two
module _ {A : Type 0} (p : A → Bool) (r : A → A → Bool) where
  abbrev both_kept : A → A → Bool
  both_kept x y = not (p x && p y) || r x y

  pairs-keep : (xs : List A) → pairs r (keep p xs) ≡ pairs both_kept xs
  unfolding pairs keep
  pairs-keep [] = refl
  pairs-keep (x ∷ xs) =
      by_cases (p x) (λ e. rw (e, pairs-keep xs, all_keep p (r x) xs) (ap passed (sym e)))
      (λ e. rw (e, pairs-keep xs) (sym (ap passed e ∙ rw (all_of (λ y. true) x xs (λ i b. refl)))))
    where
      passed : Bool → Bool
      passed b = all (λ y. not (b && p y) || r x y) xs && pairs both_kept xs

  module _ (d : A) (xs : List A) where
    pub pairs_keep_at : pairs r (keep p xs) ≡ true → (i j : ℕ) → i < j → j < length xs
        → p (get_or xs i d) ≡ true → p (get_or xs j d) ≡ true → r (get_or xs i d) (get_or xs j d) ≡ true
    pairs_keep_at h i j a b pi pj =
        guarded _ _ (pairs_at both_kept d xs (sym (pairs-keep xs) ∙ h) i j a b) (and_both pi pj)

    pub pairs_keep_of : ((i j : ℕ) → i < j → j < length xs → p (get_or xs i d) ≡ true → p (get_or xs j d) ≡ true
        → r (get_or xs i d) (get_or xs j d) ≡ true) → pairs r (keep p xs) ≡ true
    pairs_keep_of h =
        pairs-keep xs
        ∙ pairs_of both_kept d xs
        (λ i j a b.
        let x = get_or xs i d in
        let y = get_or xs j d in
        guard (p x && p y) (r x y) (λ e. h i j a b (and_left (p x) (p y) e) (and_right (p x) (p y) e)))

-- one step, and the end
module _ {A : Type 0} (xs : List A) (i : ℕ) where
  pub pairs-kept : (d : A) → i < length xs → (p : A → Bool) (r : A → A → Bool) → p (get_or xs i d) ≡ true
      → pairs r (keep p (drop i xs)) ≡ (all (r (get_or xs i d)) (keep p (drop (i + 1) xs)) && pairs r (keep p (drop (i + 1) xs)))
  unfolding pairs
  pairs-kept d below p r e = rw (kept_here xs i d below p e)

  -- against those kept after it: it is not kept, or it passes; or it fails
  module _ (d : A) (below : i < length xs) (p : A → Bool) (r : A → A → Bool) where
    abbrev later : Bool
    later = all (r (get_or xs i d)) (keep p (drop (i + 1) xs))

    pub pairs_kept_past : (p (get_or xs i d) ≡ true → later ≡ true) → pairs r (keep p (drop i xs)) ≡ pairs r (keep p (drop (i + 1) xs))
    pairs_kept_past h =
        by_cases (p (get_or xs i d)) (λ e. pairs-kept d below p r e ∙ ap (λ (b : Bool). b && pairs r (keep p (drop (i + 1) xs))) (h e))
        (λ e. ap (pairs r) (kept_past xs i d below p e))

    pub pairs_kept_fails : p (get_or xs i d) ≡ true → later ≡ false → pairs r (keep p (drop i xs)) ≡ false
    pairs_kept_fails e f = pairs-kept d below p r e ∙ ap (λ (b : Bool). b && pairs r (keep p (drop (i + 1) xs))) f

  pub pairs_kept_end : length xs ≤ i → (p : A → Bool) (r : A → A → Bool) → pairs r (keep p (drop i xs)) ≡ true
  unfolding pairs
  pairs_kept_end past p r = rw (kept_end xs i past p)

-- a list made from another
pub pairs-map : {A B : Type 0} (f : A → B) (r : B → B → Bool) (xs : List A) → pairs r (map f xs) ≡ pairs (λ x y. r (f x) (f y)) xs
unfolding pairs
pairs-map f r [] = refl
pairs-map f r (x ∷ xs) = ap₂ (λ (b c : Bool). b && c) (all_map f (r (f x)) xs) (pairs-map f r xs)
