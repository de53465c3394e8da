-- Two lists of numbers are the same.
use Prim.Native.Nat.{ℕ, suc, ◌+◌, ◌≤◌, ◌<◌}
use borrow.Author.Tests.{eq-eqb, ne_eqb, eqb-true}
use native.Mathlib.Omega.{arith}
use lib.{Dec.eqb, ListN.{length, get_or, drop, drop_of_length-le}}
use mathlib.Core.{Path.{◌≡◌, refl, sym, ◌∙◌, ap, ap₂}, Bool.{true, false, false≢true}, List.{List, [], ◌∷◌, ◌++◌}, Logic.◌↔◌}
use Rattle.lists.proofs.{Tests.{refuted, and_left, and_right, and_both}, Places.drop_next}
use Rattle.lists.specs.Lists.{same, is_empty}

pub same_is : (xs ys : List ℕ) → same xs ys ≡ true → xs ≡ ys
unfolding same
same_is [] [] h = refl
same_is [] (y ∷ ys) h = absurd (false≢true h)
same_is (x ∷ xs) [] h = absurd (false≢true h)
same_is (x ∷ xs) (y ∷ ys) h =
    ap₂ (λ (n : ℕ) (ns : List ℕ). n ∷ ns) (eqb-true x y (and_left (eqb x y) (same xs ys) h))
    (same_is xs ys (and_right (eqb x y) (same xs ys) h))

pub same_self : (xs : List ℕ) → same xs xs ≡ true
unfolding same
same_self [] = refl
same_self (x ∷ xs) = and_both (eq-eqb x x refl) (same_self xs)

pub same_iff : (xs ys : List ℕ) → (same xs ys ≡ true) ↔ (xs ≡ ys)
same_iff xs ys = (same_is xs ys, λ e. ap (same xs) (sym e) ∙ same_self xs)

pub empty_is : (xs : List ℕ) → is_empty xs ≡ true → xs ≡ []
unfolding is_empty
empty_is [] h = refl
empty_is (x ∷ xs) h = absurd (false≢true h)

-- a length tells whether anything is there
pub empty_length : {A : Type 0} (xs : List A) → eqb (length xs) 0 ≡ is_empty xs
unfolding is_empty
empty_length [] = refl
empty_length (x ∷ xs) = ne_eqb (suc (length xs)) 0 (λ e. omega arith)

-- by the first two numbers
module _ (x y : ℕ) (xs ys : List ℕ) where
  pub same_tail : x ≡ y → same (x ∷ xs) (y ∷ ys) ≡ same xs ys
  unfolding same
  same_tail e = rw (eq-eqb x y e)

  pub same_differs : (x ≡ y → ⊥) → same (x ∷ xs) (y ∷ ys) ≡ false
  unfolding same
  same_differs e = rw (ne_eqb x y e)

-- by what is left at place i
module _ (xs ys : List ℕ) (i d e : ℕ) where
  pub same_next : i < length xs → i < length ys → get_or xs i d ≡ get_or ys i e
      → same (drop i xs) (drop i ys) ≡ same (drop (i + 1) xs) (drop (i + 1) ys)
  same_next hx hy eq = rw (drop_next xs i d hx, drop_next ys i e hy) (same_tail _ _ _ _ eq)

  pub same_stops : i < length xs → i < length ys → (get_or xs i d ≡ get_or ys i e → ⊥) → same (drop i xs) (drop i ys) ≡ false
  same_stops hx hy ne = rw (drop_next xs i d hx, drop_next ys i e hy) (same_differs _ _ _ _ ne)

pub same_end : (xs ys : List ℕ) (i : ℕ) → length xs ≤ i → length ys ≤ i → same (drop i xs) (drop i ys) ≡ true
unfolding same
same_end xs ys i hx hy = rw (drop_of_length-le xs hx, drop_of_length-le ys hy)

-- lists of different lengths differ
pub same-lengths : (xs ys : List ℕ) → (length xs ≡ length ys → ⊥) → same xs ys ≡ false
same-lengths xs ys ne = refuted (same xs ys) (λ e. ne (ap length (same_is xs ys e)))

-- lists that start alike are compared by what follows
pub same-append : (xs ys zs : List ℕ) → same (xs ++ ys) (xs ++ zs) ≡ same ys zs
same-append [] ys zs = refl
same-append (x ∷ xs) ys zs = same_tail x x (xs ++ ys) (xs ++ zs) refl ∙ same-append xs ys zs
