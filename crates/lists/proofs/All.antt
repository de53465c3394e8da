-- Every element passes.
use Prim.Native.Nat.{ℕ, zero, suc, ◌+◌, ◌≤◌, ◌<◌}
use lib.{ListN.{length, get_or, drop, drop_of_length-le}, Seq.drop-cons}
use mathlib.Core.{Path.{◌≡◌, refl, sym, ◌∙◌, ap, ap₂}, Bool.{Bool, true, false, not, ◌&&◌, and_assoc, and-true}, List.{List, [], ◌∷◌, map}}
use native.Mathlib.{Numerals.add-one, Omega.arith}
use Rattle.lists.proofs.{Tests.{by_cases, not_both, not_is, and_left, and_right, and_both}, Places.{used_below, drop_next}}
use Rattle.lists.specs.Lists.{all, all_from}

-- at each place
module _ {A : Type 0} (p : A → Bool) (d : A) where
  pub all_at : (xs : List A) → all p xs ≡ true → (i : ℕ) → i < length xs → p (get_or xs i d) ≡ true
  unfolding all
  all_at [] h i b = absurd (let z : ⊥ = omega arith in z)
  all_at (x ∷ xs) h zero b = and_left (p x) (all p xs) h
  all_at (x ∷ xs) h (suc i) b = all_at xs (and_right (p x) (all p xs) h) i (omega arith)

  pub all_of : (xs : List A) → ((i : ℕ) → i < length xs → p (get_or xs i d) ≡ true) → all p xs ≡ true
  unfolding all
  all_of [] h = refl
  all_of (x ∷ xs) h = and_both (h 0 (omega arith)) (all_of xs (λ i b. h (suc i) (omega arith)))

  -- past the end too, where the default passes
  pub all_slots : p d ≡ true → (xs : List A) → all p xs ≡ true → (i : ℕ) → p (get_or xs i d) ≡ true
  all_slots hd xs h i =
      by_cases (p (get_or xs i d)) (λ e. e)
      (λ e. absurd (not_both (all_at xs h i (used_below (λ x. not (p x)) d (ap not hd) xs i (not_is e))) e))

-- one step, and the end
module _ {A : Type 0} (p : A → Bool) (xs : List A) (i : ℕ) where
  pub all_fails : (d : A) → i < length xs → p (get_or xs i d) ≡ false → all p (drop i xs) ≡ false
  unfolding all
  all_fails d h e = rw (drop_next xs i d h, e)

  pub all_next : (d : A) → i < length xs → p (get_or xs i d) ≡ true → all p (drop i xs) ≡ all p (drop (i + 1) xs)
  unfolding all
  all_next d h e = rw (drop_next xs i d h, e)

  pub all_end : length xs ≤ i → all p (drop i xs) ≡ true
  unfolding all
  all_end h = rw (drop_of_length-le xs h)

  -- for a pass without a branch: what was found of the places before, and the places from here on
  module _ (sofar : Bool) {whole : Bool} (inv : whole ≡ (sofar && all p (drop i xs))) where
    pub all_gathered : (d : A) → i < length xs → {test : Bool} → test ≡ p (get_or xs i d) → whole ≡ ((sofar && test) && all p (drop (i + 1) xs))
    unfolding all
    all_gathered d h {test} e =
        inv
        ∙ ap (λ (b : Bool). sofar && b) (ap (all p) (drop_next xs i d h) ∙ ap (λ (b : Bool). b && all p (drop (i + 1) xs)) (sym e))
        ∙ sym (and_assoc sofar test (all p (drop (i + 1) xs)))

    pub all_gathered_end : length xs ≤ i → sofar ≡ whole
    all_gathered_end h = sym (inv ∙ ap (λ (b : Bool). sofar && b) (all_end h) ∙ and-true sofar)

-- a list made from another
pub all_map : {A B : Type 0} (f : A → B) (p : B → Bool) (xs : List A) → all p (map f xs) ≡ all (λ x. p (f x)) xs
unfolding all
all_map f p [] = refl
all_map f p (x ∷ xs) = ap (λ (b : Bool). p (f x) && b) (all_map f p xs)

-- every element passes with its number
module _ {A : Type 0} where
  numbered_shift : (p : ℕ → A → Bool) (n : ℕ) (xs : List A) → all_from p (suc n) xs ≡ all_from (λ m. p (suc m)) n xs
  unfolding all_from
  numbered_shift p n [] = refl
  numbered_shift p n (x ∷ xs) = ap (λ (b : Bool). p (suc n) x && b) (numbered_shift p (suc n) xs)

  pub numbered_at : (p : ℕ → A → Bool) (d : A) (xs : List A) → all_from p 0 xs ≡ true → (i : ℕ) → i < length xs
      → p i (get_or xs i d) ≡ true
  unfolding all_from
  numbered_at p d [] h i b = absurd (let z : ⊥ = omega arith in z)
  numbered_at p d (x ∷ xs) h zero b = and_left (p 0 x) (all_from p 1 xs) h
  numbered_at p d (x ∷ xs) h (suc i) b =
      numbered_at (λ m. p (suc m)) d xs (sym (numbered_shift p 0 xs) ∙ and_right (p 0 x) (all_from p 1 xs) h) i (omega arith)

  pub numbered_of : (p : ℕ → A → Bool) (d : A) (xs : List A) → ((i : ℕ) → i < length xs → p i (get_or xs i d) ≡ true)
      → all_from p 0 xs ≡ true
  unfolding all_from
  numbered_of p d [] h = refl
  numbered_of p d (x ∷ xs) h =
      and_both (h 0 (omega arith))
      (numbered_shift p 0 xs ∙ numbered_of (λ m. p (suc m)) d xs (λ i b. h (suc i) (omega arith)))

  module _ (p : ℕ → A → Bool) (xs : List A) (i : ℕ) where
    pub numbered_stops : (d : A) → i < length xs → p i (get_or xs i d) ≡ false → all_from p i (drop i xs) ≡ false
    unfolding all_from
    numbered_stops d below e = rw (drop-cons xs i d below, all_from, e)

    pub numbered_next : (d : A) → i < length xs → p i (get_or xs i d) ≡ true
        → all_from p i (drop i xs) ≡ all_from p (i + 1) (drop (i + 1) xs)
    unfolding all_from
    numbered_next d below e = rw (add-one, drop-cons xs i d below, all_from, e)

    pub numbered_end : length xs ≤ i → all_from p i (drop i xs) ≡ true
    unfolding all_from
    numbered_end h = rw (drop_of_length-le xs h)

  -- two tests that agree at every number that the list has
  pub numbered_same : (p q : ℕ → A → Bool) (n : ℕ) (xs : List A) → ((i : ℕ) → i < n + length xs → (x : A) → p i x ≡ q i x)
      → all_from p n xs ≡ all_from q n xs
  unfolding all_from
  numbered_same p q n [] h = refl
  numbered_same p q n (x ∷ xs) h =
      ap₂ (λ (b c : Bool). b && c) (h n (omega arith) x) (numbered_same p q (suc n) xs (λ i b y. h i (omega arith) y))
