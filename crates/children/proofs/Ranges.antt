-- What `all` and `any` over the numbers of a table's slots answer, where the test of a number is that of the slot there.
use Rattle.base.{specs.Base.{ℕ, suc, ◌+◌, ◌≡◌, Bool, true, ◌&&◌, ◌||◌, List, [], ◌∷◌, length, get_or, drop, all, all_from, any}, proofs.Laws.{refl, sym, ap, ap₂, ◌∙◌, arith}}
use Rattle.std.specs.List.{list_all, list_any, range_with_len}
use native.Mathlib.Numerals.{add-one}

module _ {A : Type 0} (d : A) (test : ℕ → Bool) where
  -- a test of a list that goes by its first place and the rest
  module _ (step : ℕ → A → List A → Bool) (whole : ℕ → List A → Bool) (none : (n : ℕ) → whole n [] ≡ true)
      (more : (n : ℕ) (x : A) (xs : List A) → whole n (x ∷ xs) ≡ (step n x xs && whole (suc n) xs)) where
    from_place : (n : ℕ) (xs : List A) → ((i j : ℕ) → j ≡ n + i → test j ≡ step j (get_or xs i d) (drop (suc i) xs))
        → list_all test (range_with_len n (length xs)) ≡ whole n xs
    from_place n [] h = sym (none n)
    from_place n (x ∷ xs) h =
        ap₂ (λ (a b : Bool). a && b) (h 0 n (omega arith))
        (ap (λ (m : ℕ). list_all test (range_with_len m (length xs))) (add-one n)
        ∙ from_place (suc n) xs (λ i j e. h (suc i) j (omega arith)))
        ∙ sym (more n x xs)

    pub all_places : {n : ℕ} (xs : List A) → length xs ≡ n → ((i : ℕ) → test i ≡ step i (get_or xs i d) (drop (suc i) xs))
        → {r : Bool} → r ≡ list_all test (range_with_len 0 n) → r ≡ whole 0 xs
    all_places {n} xs e h {r} k =
        k ∙ ap (λ (m : ℕ). list_all test (range_with_len 0 m)) (sym e)
        ∙ from_place 0 xs (λ i j e. h j ∙ ap (λ (m : ℕ). step j (get_or xs m d) (drop (suc m) xs)) (let z : j ≡ i = omega arith in z))

  -- each slot passes, with its number or without
  pub all_numbered : (p : ℕ → A → Bool) {n : ℕ} (xs : List A) → length xs ≡ n → ((i : ℕ) → test i ≡ p i (get_or xs i d))
      → {r : Bool} → r ≡ list_all test (range_with_len 0 n) → r ≡ all_from p 0 xs
  unfolding all_from
  all_numbered p xs e h k = all_places (λ n x rest. p n x) (λ n ys. all_from p n ys) (λ n. refl) (λ n x ys. refl) xs e h k

  pub all_placed : (p : A → Bool) {n : ℕ} (xs : List A) → length xs ≡ n → ((i : ℕ) → test i ≡ p (get_or xs i d))
      → {r : Bool} → r ≡ list_all test (range_with_len 0 n) → r ≡ all p xs
  unfolding all
  all_placed p xs e h k = all_places (λ n x rest. p x) (λ n ys. all p ys) (λ n. refl) (λ n x ys. refl) xs e h k

  -- some slot passes
  any_from_place : (p : A → Bool) (n : ℕ) (xs : List A) → ((i j : ℕ) → j ≡ n + i → test j ≡ p (get_or xs i d))
      → list_any test (range_with_len n (length xs)) ≡ any p xs
  unfolding any
  any_from_place p n [] h = refl
  any_from_place p n (x ∷ xs) h =
      ap₂ (λ (a b : Bool). a || b) (h 0 n (omega arith))
      (ap (λ (m : ℕ). list_any test (range_with_len m (length xs))) (add-one n)
      ∙ any_from_place p (suc n) xs (λ i j e. h (suc i) j (omega arith)))

  pub any_placed : (p : A → Bool) {n : ℕ} (xs : List A) → length xs ≡ n → ((i : ℕ) → test i ≡ p (get_or xs i d))
      → {r : Bool} → r ≡ list_any test (range_with_len 0 n) → r ≡ any p xs
  any_placed p {n} xs e h {r} k =
      k ∙ ap (λ (m : ℕ). list_any test (range_with_len 0 m)) (sym e)
      ∙ any_from_place p 0 xs (λ i j e. h j ∙ ap (λ (m : ℕ). p (get_or xs m d)) (let z : j ≡ i = omega arith in z))
