-- What the rules ask of a table: a test on each record, a count, the lowest slot, each pair.
use Rattle.std.specs.Prelude.{ℕ, suc, ◌-◌}
use lib.{Dec.eqb, ListN.{length, replicate, drop, set}}
use mathlib.Core.{Bool.{Bool, true, false, not, cond, ◌&&◌, ◌||◌}, List.{List, [], ◌∷◌, ◌++◌}, Option.{Option, none, some}}

module _ {A : Type 0} where
  -- every element passes
  unfoldable pub all : (A → Bool) → List A → Bool
  all p [] = true
  all p (x ∷ xs) = p x && all p xs

  -- every element passes with its number, the first one's being `at`
  unfoldable pub all_from : (ℕ → A → Bool) → ℕ → List A → Bool
  all_from p at [] = true
  all_from p at (x ∷ xs) = p at x && all_from p (suc at) xs

  -- some element passes
  unfoldable pub any : (A → Bool) → List A → Bool
  any p [] = false
  any p (x ∷ xs) = p x || any p xs

  -- how many elements pass
  unfoldable pub count : (A → Bool) → List A → ℕ
  count p [] = 0
  count p (x ∷ xs) = let rest = count p xs in cond (p x) (suc rest) rest

  -- the elements that pass, in order
  unfoldable pub keep : (A → Bool) → List A → List A
  keep p [] = []
  keep p (x ∷ xs) = let rest = keep p xs in cond (p x) (x ∷ rest) rest

  -- every element passes against every later one
  unfoldable pub pairs : (A → A → Bool) → List A → Bool
  pairs r [] = true
  pairs r (x ∷ xs) = all (r x) xs && pairs r xs

  -- the first place that passes, where the list's own first place has the number `at`
  unfoldable pub first_from : (A → Bool) → List A → ℕ → Option ℕ
  first_from p [] at = none
  first_from p (x ∷ xs) at = elim (p x) [ true ↦ some at | false ↦ first_from p xs (suc at) ]

  -- the first element that passes
  unfoldable pub find : (A → Bool) → List A → Option A
  find p [] = none
  find p (x ∷ xs) = elim (p x) [ true ↦ some x | false ↦ find p xs ]

  -- the first place from n on that passes
  unfoldable pub first_after : (A → Bool) → ℕ → List A → Option ℕ
  first_after p n xs = first_from p (drop n xs) n

  abbrev pub first : (A → Bool) → List A → Option ℕ
  first p xs = first_after p 0 xs

  -- the lowest free slot from n on, of a table whose used slots pass
  abbrev pub first_free : (A → Bool) → ℕ → List A → Option ℕ
  first_free used n xs = first_after (λ x. not (used x)) n xs

  -- x written at each place given, in order, by its number
  unfoldable pub writes : {N : Type 0} → (N → ℕ) → List (N × A) → List A → List A
  writes number [] xs = xs
  writes number (w ∷ ws) xs = writes number ws (set xs (number w.0) w.1)

  unfoldable pub is_empty : List A → Bool
  is_empty [] = true
  is_empty (x ∷ xs) = false

  -- one list holds the other's elements, each as often, in any order
  pub data Permutation : List A → List A → Type 0 where
    nil : Permutation [] []
    skip : (x : A) {xs ys : List A} → Permutation xs ys → Permutation (x ∷ xs) (x ∷ ys)
    swap : (x y : A) (xs : List A) → Permutation (x ∷ y ∷ xs) (y ∷ x ∷ xs)
    both : {xs ys zs : List A} → Permutation xs ys → Permutation ys zs → Permutation xs zs

-- two lists of numbers are equal
unfoldable pub same : List ℕ → List ℕ → Bool
same [] [] = true
same [] (y ∷ ys) = false
same (x ∷ xs) [] = false
same (x ∷ xs) (y ∷ ys) = eqb x y && same xs ys

-- x is one of the numbers listed
unfoldable pub one_of : ℕ → List ℕ → Bool
one_of x ys = any (eqb x) ys

-- xs, with zeros after it up to n places
unfoldable pub padded : ℕ → List ℕ → List ℕ
padded n xs = xs ++ replicate (n - length xs) 0
