-- A list by its places: `get_or xs i d` is the element at place i, and d past the end; `drop i xs` is what is left there.
use Prim.Native.Nat.{ℕ, zero, suc, ◌+◌, ◌-◌, ◌≤◌, ◌<◌}
use lib.{ListN.{length, get_or, drop}, Seq.drop-cons}
use mathlib.Core.{Path.{◌≡◌, refl, ap, ◌∙◌}, Bool.{Bool, true, false}, List.{List, [], ◌∷◌, map}}
use native.Mathlib.{Numerals.add-one, Omega.arith}
use Rattle.lists.proofs.Tests.{not_both}

-- Below a list's length the default does not matter. A record that the code read out of an array has the logic's own
-- default, a definition the record of a free slot.
pub get_d_default : {A : Type 0} (xs : List A) (i : ℕ) (d e : A) → i < length xs → get_or xs i d ≡ get_or xs i e
get_d_default [] i d e h = absurd (omega arith)
get_d_default (x ∷ xs) zero d e h = refl
get_d_default (x ∷ xs) (suc i) d e h = get_d_default xs i d e (omega arith)

-- a place that passes is below the length, where the default fails
pub used_below : {A : Type 0} (used : A → Bool) (d : A) → used d ≡ false → (xs : List A) (i : ℕ)
    → used (get_or xs i d) ≡ true → i < length xs
used_below used d df [] i u = absurd (not_both u df)
used_below used d df (x ∷ xs) zero u = omega arith
used_below used d df (x ∷ xs) (suc i) u = let b = used_below used d df xs i u in omega arith

module _ {A : Type 0} (xs : List A) (i : ℕ) (d : A) where
  -- what is left at place i is the element there, and what is left at the next
  pub drop_next : i < length xs → drop i xs ≡ get_or xs i d ∷ drop (i + 1) xs
  drop_next h = rw add-one (drop-cons xs i d h)

  -- a pass from the back: what was passed is `drop i xs`, and the element before it comes next
  pub drop_back : 0 < i → i ≤ length xs → drop (i - 1) xs ≡ get_or xs (i - 1) d ∷ drop i xs
  drop_back h k =
      drop-cons xs (i - 1) d (omega arith)
      ∙ ap (λ (n : ℕ). get_or xs (i - 1) d ∷ drop n xs) (let e : suc (i - 1) ≡ i = omega arith in e)

-- a list made from another
pub drop-map : {A B : Type 0} (f : A → B) (n : ℕ) (xs : List A) → drop n (map f xs) ≡ map f (drop n xs)
drop-map f zero xs = refl
drop-map f (suc n) [] = refl
drop-map f (suc n) (x ∷ xs) = drop-map f n xs
