-- The elements that pass.
use Prim.Native.Nat.{ℕ, ◌+◌, ◌≤◌, ◌<◌}
use borrow.Author.Tests.{not-true}
use lib.ListN.{length, get_or, drop, drop_of_length-le}
use mathlib.Core.{Path.{◌≡◌, refl, sym, ◌∙◌, ap}, Bool.{Bool, true, false, not, ◌&&◌, ◌||◌}, List.{List, [], ◌∷◌, ◌++◌, map}}
use Rattle.lists.proofs.{Tests.{by_cases, not_both, not_is, excluded, excludes, or_neither}, Places.{used_below, drop_next}, Any.{any_fails, none_of}}
use Rattle.lists.specs.Lists.{all, any, count, keep}

-- one element more
module _ {A : Type 0} (p : A → Bool) (x : A) (xs : List A) where
  pub keep_yes : p x ≡ true → keep p (x ∷ xs) ≡ x ∷ keep p xs
  unfolding keep
  keep_yes e = rw e

  pub keep_no : p x ≡ false → keep p (x ∷ xs) ≡ keep p xs
  unfolding keep
  keep_no e = rw e

module _ {A : Type 0} (xs : List A) (i : ℕ) where
  -- one step: the place has the first of them, or it is passed over
  module _ (d : A) (below : i < length xs) (p : A → Bool) where
    pub kept_here : p (get_or xs i d) ≡ true → keep p (drop i xs) ≡ get_or xs i d ∷ keep p (drop (i + 1) xs)
    kept_here e = ap (keep p) (drop_next xs i d below) ∙ keep_yes p (get_or xs i d) (drop (i + 1) xs) e

    pub kept_past : p (get_or xs i d) ≡ false → keep p (drop i xs) ≡ keep p (drop (i + 1) xs)
    kept_past e = ap (keep p) (drop_next xs i d below) ∙ keep_no p (get_or xs i d) (drop (i + 1) xs) e

    -- a test of each of them
    pub all_kept_fails : (q : A → Bool) → p (get_or xs i d) ≡ true → q (get_or xs i d) ≡ false → all q (keep p (drop i xs)) ≡ false
    unfolding all
    all_kept_fails q e f = rw (kept_here e, f)

    pub all_kept_next : (q : A → Bool) → p (get_or xs i d) ≡ true → q (get_or xs i d) ≡ true
        → all q (keep p (drop i xs)) ≡ all q (keep p (drop (i + 1) xs))
    unfolding all
    all_kept_next q e f = rw (kept_here e, f)

    -- it is not kept, or it passes
    pub all_kept_past : (q : A → Bool) → (p (get_or xs i d) ≡ true → q (get_or xs i d) ≡ true)
        → all q (keep p (drop i xs)) ≡ all q (keep p (drop (i + 1) xs))
    all_kept_past q h = by_cases (p (get_or xs i d)) (λ e. all_kept_next q e (h e)) (λ e. ap (all q) (kept_past e))

  -- the end
  module _ (past : length xs ≤ i) (p : A → Bool) where
    pub kept_end : keep p (drop i xs) ≡ []
    unfolding keep
    kept_end = rw (drop_of_length-le xs past)

    pub all_kept_end : (q : A → Bool) → all q (keep p (drop i xs)) ≡ true
    unfolding all
    all_kept_end q = rw kept_end

-- a test of those kept is a test of all
module _ {A : Type 0} (p q : A → Bool) where
  pub all_keep : (xs : List A) → all q (keep p xs) ≡ all (λ x. not (p x) || q x) xs
  unfolding all keep
  all_keep [] = refl
  all_keep (x ∷ xs) = by_cases (p x) (λ e. rw (e, all_keep xs)) (λ e. rw e (all_keep xs))

  pub any-keep : (xs : List A) → any q (keep p xs) ≡ any (λ x. p x && q x) xs
  unfolding any keep
  any-keep [] = refl
  any-keep (x ∷ xs) = by_cases (p x) (λ e. rw (e, any-keep xs)) (λ e. rw e (any-keep xs))

  -- a test that implies the first counts the same among those kept
  pub count-keep : ((x : A) → q x ≡ true → p x ≡ true) → (xs : List A) → count q (keep p xs) ≡ count q xs
  unfolding keep count
  count-keep i [] = refl
  count-keep i (x ∷ xs) =
      by_cases (p x) (λ e. rw (e, count-keep i xs))
      (λ e. by_cases (q x) (λ f. absurd (not_both (i x f) e)) (λ f. rw (e, f) (count-keep i xs)))

  -- no kept element passes, as a statement about every place: past the end stands a default, which isn't kept
  pub none_kept_at : (d : A) → p d ≡ false → (xs : List A) → any q (keep p xs) ≡ false
      → (i : ℕ) → p (get_or xs i d) ≡ true → q (get_or xs i d) ≡ false
  none_kept_at d e xs h i u =
      excluded (p (get_or xs i d)) (q (get_or xs i d))
      (not_is (any_fails (λ x. p x && q x) d xs (sym (any-keep xs) ∙ h) i (used_below p d e xs i u))) u

  pub none_kept_of : (d : A) (xs : List A) → ((i : ℕ) → p (get_or xs i d) ≡ true → q (get_or xs i d) ≡ false)
      → any q (keep p xs) ≡ false
  none_kept_of d xs h =
      any-keep xs
      ∙ none_of (λ x. p x && q x) d xs (λ i b. not-true _ (excludes (p (get_or xs i d)) (q (get_or xs i d)) (h i)))

module _ {A : Type 0} (p : A → Bool) where
  -- how many pass is how many are kept
  pub length-keep : (xs : List A) → length (keep p xs) ≡ count p xs
  unfolding keep count
  length-keep [] = refl
  length-keep (x ∷ xs) = by_cases (p x) (λ e. rw (e, length-keep xs)) (λ e. rw e (length-keep xs))

  -- no element passes: none is kept, and by the opposite test all are
  pub keep_none : (xs : List A) → any p xs ≡ false → keep p xs ≡ []
  unfolding any keep
  keep_none [] h = refl
  keep_none (x ∷ xs) h = let n = or_neither (p x) (any p xs) h in rw n.0 (keep_none xs n.1)

  pub keep_others : (xs : List A) → any p xs ≡ false → keep (λ x. not (p x)) xs ≡ xs
  unfolding any keep
  keep_others [] h = refl
  keep_others (x ∷ xs) h = let n = or_neither (p x) (any p xs) h in rw (n.0, keep_others xs n.1)

  -- two lists one after the other
  pub keep_append : (xs ys : List A) → keep p (xs ++ ys) ≡ keep p xs ++ keep p ys
  unfolding keep
  keep_append [] ys = refl
  keep_append (x ∷ xs) ys = by_cases (p x) (λ e. rw (e, keep_append xs ys)) (λ e. rw e (keep_append xs ys))

-- a list made from another
pub keep-map : {A B : Type 0} (f : A → B) (p : B → Bool) (xs : List A) → keep p (map f xs) ≡ map f (keep (λ x. p (f x)) xs)
unfolding keep
keep-map f p [] = refl
keep-map f p (x ∷ xs) = by_cases (p (f x)) (λ e. rw (e, keep-map f p xs)) (λ e. rw e (keep-map f p xs))
