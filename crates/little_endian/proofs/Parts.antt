-- Parts of a list before, after and inside a write, and writes side by side.
use Prim.Native.Nat.{ℕ, zero, suc, ◌+◌, ◌-◌, ◌≤◌, min}
use lib.{ListN.{length, take, drop, set, drop_of_length-le}, Seq.{sets, sets-eq, take-set-le, take-set-lt, drop-set-lt, drop-set-add, take-take, take-nil}}
use mathlib.Core.{Path.{◌≡◌, refl, sym, ◌∙◌, ap}, List.{List, [], ◌∷◌, ◌++◌, append-nil}}
use native.Mathlib.{Omega.arith, Nat.{add-suc, add-zero, zero-min, min-zero, suc-min-suc, sub-zero, zero-sub, suc-sub-suc}}
use Rattle.little_endian.specs.Writes.{Wrote}

module _ {A : Type 0} where
  -- a write at a place past the first n leaves them
  pub take_sets_past : (n : ℕ) (l : List A) (at : ℕ) (xs : List A) → n ≤ at → take n (sets l at xs) ≡ take n l
  take_sets_past n l at [] h = refl
  take_sets_past n l at (x ∷ xs) h =
      take_sets_past n (set l at x) (suc at) xs (omega arith) ∙ take-set-le n l at x h

  -- a write within the first n is a write in them
  pub take_sets_within : (n : ℕ) (l : List A) (at : ℕ) (xs : List A) → at + length xs ≤ n
      → take n (sets l at xs) ≡ sets (take n l) at xs
  take_sets_within n l at [] h = refl
  take_sets_within n l at (x ∷ xs) h =
      take_sets_within n (set l at x) (suc at) xs (omega arith)
      ∙ ap (λ (m : List A). sets m (suc at) xs) (take-set-lt n l at x (omega arith))

  -- a write within the first n leaves the rest
  pub drop_sets_within : (n : ℕ) (l : List A) (at : ℕ) (xs : List A) → at + length xs ≤ n
      → drop n (sets l at xs) ≡ drop n l
  drop_sets_within n l at [] h = refl
  drop_sets_within n l at (x ∷ xs) h =
      drop_sets_within n (set l at x) (suc at) xs (omega arith) ∙ drop-set-lt n l at x (omega arith)

  -- a write past the first n is a write in the rest
  pub drop_sets_past : (n : ℕ) (l : List A) (at : ℕ) (xs : List A) → drop n (sets l (n + at) xs) ≡ sets (drop n l) at xs
  drop_sets_past n l at [] = refl
  drop_sets_past n l at (x ∷ xs) =
      ap (λ (k : ℕ). drop n (sets (set l (n + at) x) k xs)) (sym (add-suc n at))
      ∙ drop_sets_past n (set l (n + at) x) (suc at) xs
      ∙ ap (λ (m : List A). sets m (suc at) xs) (drop-set-add n l at x)

  -- all of a list written over
  pub sets_all : (l xs : List A) → length l ≡ length xs → sets l 0 xs ≡ xs
  sets_all l xs h =
      sets-eq xs l 0 (omega arith)
      ∙ rw (drop_of_length-le l {i = 0 + length xs} (omega arith)) (append-nil xs)

  pub sets_append : (l : List A) (at : ℕ) (xs ys : List A) → sets l at (xs ++ ys) ≡ sets (sets l at xs) (at + length xs) ys
  sets_append l at [] ys = ap (λ (k : ℕ). sets l k ys) (sym (add-zero at))
  sets_append l at (x ∷ xs) ys =
      sets_append (set l at x) (suc at) xs ys
      ∙ ap (λ (k : ℕ). sets (sets l at (x ∷ xs)) k ys) (let e : suc at + length xs ≡ at + length (x ∷ xs) = omega arith in e)

  -- a part of a part
  pub take_drop_take : (n k m : ℕ) (l : List A) → k + n ≤ m → take n (drop k (take m l)) ≡ take n (drop k l)
  take_drop_take n zero m l h = take-take n m l (omega arith)
  take_drop_take n (suc k) zero l h = absurd (let z : ⊥ = omega arith in z)
  take_drop_take n (suc k) (suc m) [] h = refl
  take_drop_take n (suc k) (suc m) (x ∷ l) h = take_drop_take n k m l (omega arith)

  -- takes and drops of a part, as numbers
  pub take_min : (n m : ℕ) (l : List A) → take n (take m l) ≡ take (min n m) l
  take_min zero m l = rw zero-min
  take_min (suc n) zero l = rw min-zero
  take_min (suc n) (suc m) [] = sym (take-nil (min (suc n) (suc m)))
  take_min (suc n) (suc m) (x ∷ l) = rw suc-min-suc (ap {B = List A} (λ r. x ∷ r) (take_min n m l))

  pub drop-take : (k m : ℕ) (l : List A) → drop k (take m l) ≡ take (m - k) (drop k l)
  drop-take zero m l = rw sub-zero
  drop-take (suc k) zero l = rw zero-sub
  drop-take (suc k) (suc m) [] = sym (take-nil (suc m - suc k))
  drop-take (suc k) (suc m) (x ∷ l) = rw suc-sub-suc (drop-take k m l)

-- two writes side by side are one
pub then : {l m o : List ℕ} {at : ℕ} {xs ys : List ℕ} → Wrote l at xs m → Wrote m (at + length xs) ys o → Wrote l at (xs ++ ys) o
then {l} {m} {o} {at} {xs} {ys} a b =
    record {
      is = b.is ∙ rw a.is (sym (sets_append l at xs ys));
      kept = b.kept ∙ a.kept;
    }
