-- Bytes that are all zero, however many, stand for a value: of numbers 0, of cases the one of number 0.
use Prim.Native.Nat.{ℕ, zero, suc, ◌<◌}
use borrow.Author.Tests.{lt-ltb}
use lib.ListN.{get_or, take, drop, replicate}
use mathlib.Core.{Path.{◌≡◌, refl, ap, ap₂}, Bool.{true, and-eq-true_iff}, List.{List, [], ◌∷◌}}
use Rattle.little_endian.specs.LittleEndian.{from_bytes}
use Rattle.codecs.proofs.Bytes.{take_places, drop_places}
use Rattle.codecs.specs.Codec.{Codec, number, cases, ◌⊗◌, via, row, decode_row, row_stands}

-- every byte is 0
abbrev pub Zeros : List ℕ → Type 0
Zeros bs = (i : ℕ) → get_or bs i 0 ≡ 0

pub replicate_zeros : (n : ℕ) → Zeros (replicate n 0)
replicate_zeros zero i = refl
replicate_zeros (suc n) zero = refl
replicate_zeros (suc n) (suc i) = replicate_zeros n i

take_zeros : (n : ℕ) (bs : List ℕ) → Zeros bs → Zeros (take n bs)
take_zeros = take_places (λ b. b ≡ 0) refl

drop_zeros : (n : ℕ) (bs : List ℕ) → Zeros bs → Zeros (drop n bs)
drop_zeros = drop_places (λ b. b ≡ 0)

-- zeros stand for z
pub record Zero {A : Type 0} (c : Codec A) (z : A) : Type 0 where
  pub is : (bs : List ℕ) → Zeros bs → c.decode bs ≡ z
  pub stands : (bs : List ℕ) → Zeros bs → c.stands bs ≡ true

from_zeros : (bs : List ℕ) → Zeros bs → from_bytes bs ≡ 0
unfolding from_bytes
from_zeros [] h = refl
from_zeros (b ∷ bs) h = rw (h 0, from_zeros bs (λ i. h (suc i)))

pub number_zero : (w : ℕ) → Zero (number w) 0
number_zero w = record { is = from_zeros; stands = λ bs h. refl }

pub cases_zero : {A : Type 0} (n : ℕ) (to : ℕ → A) (from : A → ℕ) → 0 < n → Zero (cases n to from) (to 0)
cases_zero n to from l =
    record {
      is = λ bs h. ap to (from_zeros bs h);
      stands = λ bs h. rw (from_zeros bs h) (lt-ltb 0 n l);
    }

pub both_zero : {A B : Type 0} {c : Codec A} {d : Codec B} {x : A} {y : B} → Zero c x → Zero d y → Zero (c ⊗ d) (x, y)
both_zero {c = c} C D =
    record {
      is = λ bs h i. (
        C.is (take c.size bs) (take_zeros c.size bs h) i,
        D.is (drop c.size bs) (drop_zeros c.size bs h) i,
      );
      stands = λ bs h.
          (and-eq-true_iff _ _).1 (
            C.stands (take c.size bs) (take_zeros c.size bs h),
            D.stands (drop c.size bs) (drop_zeros c.size bs h),
          );
    }

pub via_zero : {A B : Type 0} {c : Codec A} {x : A} (to : A → B) (from : B → A) → Zero c x → Zero (via to from c) (to x)
via_zero to from C = record { is = λ bs h. ap to (C.is bs h); stands = C.stands }

module _ {A : Type 0} {c : Codec A} {z : A} (C : Zero c z) where
  row_is : (n : ℕ) (bs : List ℕ) → Zeros bs → decode_row c n bs ≡ replicate n z
  unfolding decode_row
  row_is zero bs h = refl
  row_is (suc n) bs h =
      ap₂ {C = List A} (λ x xs. x ∷ xs) (C.is (take c.size bs) (take_zeros c.size bs h))
      (row_is n (drop c.size bs) (drop_zeros c.size bs h))

  row_stands_lem : (n : ℕ) (bs : List ℕ) → Zeros bs → row_stands c n bs ≡ true
  unfolding row_stands
  row_stands_lem zero bs h = refl
  row_stands_lem (suc n) bs h =
      (and-eq-true_iff _ _).1 (
        C.stands (take c.size bs) (take_zeros c.size bs h),
        row_stands_lem n (drop c.size bs) (drop_zeros c.size bs h),
      )

  pub row_zero : (n : ℕ) → Zero (row c n) (replicate n z)
  row_zero n = record { is = row_is n; stands = row_stands_lem n }
