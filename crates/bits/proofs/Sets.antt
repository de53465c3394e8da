-- Numbers as sets of bits: how the tests of a set answer to intersection, union and difference.
use Prim.Native.Nat.{ℕ, zero, suc, ◌-◌, ◌/◌, ◌%◌, ◌≤◌, min, max}
use borrow.Author.Tests.{eqb-true, eq-eqb, ne_eqb, not-false}
use lib.{Arith.bin_ind, Bits.{bit_and, bit_or, and_step, or_step, and_shr, or_shr, and_comm, and_self, and_zero_r, or_zero_r, and_le_l, and_le_r, or_add_and, or_disjoint}, Dec.eqb}
use mathlib.Core.{Path.{◌≡◌, refl, sym, ◌∙◌, ap, ap₂}, Bool.{true, false, not, ◌||◌}, Logic.{◌↔◌, ◌≢◌}}
use native.Mathlib.Omega.{arith}
use Rattle.bits.specs.Bits.{within, has, without}

-- ---- the operations: the lowest digit of a result, and the rest

and_half : (a b : ℕ) → bit_and a b / 2 ≡ bit_and (a / 2) (b / 2)
and_half a b = and_shr a b 1

and_odd : (a b : ℕ) → bit_and a b % 2 ≡ min (a % 2) (b % 2)
and_odd a b = omega (arith, and_step a b)

or_half : (a b : ℕ) → bit_or a b / 2 ≡ bit_or (a / 2) (b / 2)
or_half a b = or_shr a b 1

or_odd : (a b : ℕ) → bit_or a b % 2 ≡ max (a % 2) (b % 2)
or_odd a b = omega (arith, or_step a b)

less_half : (a k : ℕ) → (a - bit_and a k) / 2 ≡ a / 2 - bit_and (a / 2) (k / 2)
less_half a k = omega (arith, and_step a k, and_le_l (a / 2) (k / 2))

less_odd : (a k : ℕ) → (a - bit_and a k) % 2 ≡ a % 2 - k % 2
less_odd a k = omega (arith, and_step a k, and_le_l (a / 2) (k / 2))

-- ---- the algebra of sets

pub and_assoc : (a b c : ℕ) → bit_and (bit_and a b) c ≡ bit_and a (bit_and b c)
and_assoc = bin_ind (λ (n : ℕ). (b c : ℕ) → bit_and (bit_and n b) c ≡ bit_and n (bit_and b c)) (λ b c. refl)
    (λ n ih b c. rw (
      and_step (bit_and n b) c,
      and_step n (bit_and b c),
      and_half n b,
      and_half b c,
      and_odd n b,
      and_odd b c,
      ih (b / 2) (c / 2),
    ) (omega arith))

pub and_or : (a b c : ℕ) → bit_and (bit_or a b) c ≡ bit_or (bit_and a c) (bit_and b c)
and_or = bin_ind (λ (n : ℕ). (b c : ℕ) → bit_and (bit_or n b) c ≡ bit_or (bit_and n c) (bit_and b c)) (λ b c. refl)
    (λ n ih b c. rw (
      and_step (bit_or n b) c,
      or_step (bit_and n c) (bit_and b c),
      or_half n b,
      and_half n c,
      and_half b c,
      or_odd n b,
      and_odd n c,
      and_odd b c,
      ih (b / 2) (c / 2),
    ) (omega arith))

-- what is left of a after k is taken from it has nothing of k
less_and : (a k : ℕ) → bit_and (a - bit_and a k) k ≡ 0
less_and = bin_ind (λ (n : ℕ). (k : ℕ) → bit_and (n - bit_and n k) k ≡ 0) (λ k. refl)
    (λ n ih k. rw (and_step (n - bit_and n k) k, less_half n k, less_odd n k, ih (k / 2)) (omega arith))

and_or_l : (a b c : ℕ) → bit_and a (bit_or b c) ≡ bit_or (bit_and a b) (bit_and a c)
and_or_l a b c = and_comm a (bit_or b c) ∙ and_or b c a ∙ ap₂ bit_or (and_comm b a) (and_comm c a)

or_and : (a b : ℕ) → bit_or a (bit_and a b) ≡ a
or_and a b =
    omega (arith, or_add_and a (bit_and a b), sym (and_assoc a a b) ∙ ap (λ (x : ℕ). bit_and x b) (and_self a))

or_none : (x y : ℕ) → bit_or x y ≡ 0 → x ≡ 0
or_none x y e = omega (arith, or_add_and x y, and_le_r x y)

-- a set is what a difference leaves and what it takes
less_or : (a k : ℕ) → bit_or (a - bit_and a k) (bit_and a k) ≡ a
less_or a k =
    or_disjoint (a - bit_and a k) (bit_and a k) apart ∙ omega (arith, and_le_l a k)
  where
    apart : bit_and (a - bit_and a k) (bit_and a k) ≡ 0
    apart =
        ap (bit_and (a - bit_and a k)) (and_comm a k) ∙ sym (and_assoc (a - bit_and a k) k a)
        ∙ ap (λ (x : ℕ). bit_and x a) (less_and a k)

-- ---- the tests as equations

pub within_iff : (a m : ℕ) → (within a m ≡ true) ↔ (bit_and a m ≡ a)
unfolding within
within_iff a m = (eqb-true (bit_and a m) a, eq-eqb (bit_and a m) a)

pub has_iff_false : (a m : ℕ) → (has a m ≡ false) ↔ (bit_and a m ≡ 0)
unfolding has
has_iff_false a m = (λ e. eqb-true (bit_and a m) 0 (not-false (eqb (bit_and a m) 0) e), λ e. ap not (eq-eqb (bit_and a m) 0 e))

pub has_meets : (a m : ℕ) → bit_and a m ≢ 0 → has a m ≡ true
unfolding has
has_meets a m h = ap not (ne_eqb (bit_and a m) 0 h)

pub has_comm : (a m : ℕ) → has a m ≡ has m a
unfolding has
has_comm a m = ap (λ (x : ℕ). not (eqb x 0)) (and_comm a m)

-- ---- a subset

pub within_self : (m : ℕ) → within m m ≡ true
within_self m = (within_iff m m).1 (and_self m)

pub within_zero : (m : ℕ) → within 0 m ≡ true
within_zero m = (within_iff 0 m).1 refl

-- where m and n are numerals, the second condition holds by refl
pub within_mono : (a m n : ℕ) → within a m ≡ true → bit_and m n ≡ m → within a n ≡ true
within_mono a m n h e =
    (within_iff a n).1
    (ap (λ (x : ℕ). bit_and x n) (sym am) ∙ and_assoc a m n ∙ ap (bit_and a) e ∙ am)
  where
    am : bit_and a m ≡ a
    am = (within_iff a m).0 h

pub within_trans : (a b m : ℕ) → within a b ≡ true → within b m ≡ true → within a m ≡ true
within_trans a b m h k = within_mono a b m h ((within_iff b m).0 k)

pub within_le : (a m : ℕ) → within a m ≡ true → a ≤ m
within_le a m h = omega (arith, and_le_r a m, (within_iff a m).0 h)

pub within_and_r : (a m : ℕ) → within (bit_and a m) m ≡ true
within_and_r a m = (within_iff (bit_and a m) m).1 (and_assoc a m m ∙ ap (bit_and a) (and_self m))

pub within_or : (a b m : ℕ) → within a m ≡ true → within b m ≡ true → within (bit_or a b) m ≡ true
within_or a b m h k =
    (within_iff (bit_or a b) m).1 (and_or a b m ∙ ap₂ bit_or ((within_iff a m).0 h) ((within_iff b m).0 k))

-- a set is within its union with another
pub within_or_l : (a b : ℕ) → within a (bit_or a b) ≡ true
within_or_l a b = (within_iff a (bit_or a b)).1 (and_or_l a a b ∙ ap (λ (x : ℕ). bit_or x (bit_and a b)) (and_self a) ∙ or_and a b)

pub within-split : (a m k : ℕ) → within a (bit_or m k) ≡ true → has a k ≡ false → within a m ≡ true
within-split a m k h e =
    (within_iff a m).1
    (sym (or_zero_r (bit_and a m)) ∙ ap (bit_or (bit_and a m)) (sym ((has_iff_false a k).0 e))
    ∙ sym (and_or_l a m k) ∙ (within_iff a (bit_or m k)).0 h)

-- ---- a bit in common

some_or : (x y : ℕ) → not (eqb (bit_or x y) 0) ≡ (not (eqb x 0) || not (eqb y 0))
some_or zero y = refl
some_or (suc x) y = rw (ne_eqb (suc x) 0 (λ e. omega arith), ne_eqb (bit_or (suc x) y) 0 (λ e. omega (arith, or_none (suc x) y e)))

pub has_or : (a b m : ℕ) → has (bit_or a b) m ≡ (has a m || has b m)
unfolding has
has_or a b m = ap (λ (x : ℕ). not (eqb x 0)) (and_or a b m) ∙ some_or (bit_and a m) (bit_and b m)

pub has_and_none : (a b m : ℕ) → has b m ≡ false → has (bit_and a b) m ≡ false
has_and_none a b m e =
    (has_iff_false (bit_and a b) m).1 (and_assoc a b m ∙ ap (bit_and a) ((has_iff_false b m).0 e) ∙ and_zero_r a)

pub has_subset : (a b m : ℕ) → within a b ≡ true → has b m ≡ false → has a m ≡ false
has_subset a b m h e = ap (λ (x : ℕ). has x m) (sym ((within_iff a b).0 h)) ∙ has_and_none a b m e

-- ---- a difference

pub without_clears : (a k : ℕ) → has (without a k) k ≡ false
unfolding without
without_clears a k = (has_iff_false (a - bit_and a k) k).1 (less_and a k)

pub within-without : (a k : ℕ) → within (without a k) a ≡ true
unfolding without
within-without a k = ap (within (a - bit_and a k)) (sym (less_or a k)) ∙ within_or_l (a - bit_and a k) (bit_and a k)

pub within_less : (a m k : ℕ) → within a m ≡ true → within (without a k) m ≡ true
within_less a m k h = within_trans (without a k) a m (within-without a k) h

pub without_none : (a k : ℕ) → has a k ≡ false → without a k ≡ a
unfolding without
without_none a k e = omega (arith, (has_iff_false a k).0 e)
