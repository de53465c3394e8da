-- Whether a row stands: that each of its values does, by a test of one.
use Prim.Native.Nat.{ℕ, zero, suc, ◌+◌, ◌*◌, ◌<◌}
use lib.{ListN.{take, drop}, Seq.drop-drop}
use mathlib.Core.{Path.{◌≡◌, refl, ◌∙◌, ap₂}, Bool.{Bool, true, ◌&&◌}, List.List}
use native.Mathlib.{Nat.{mul-suc, mul-zero, add-zero, zero-add, add_comm}, Omega.arith}
use Rattle.std.specs.List.{list_all, range_with_len}
use Rattle.little_endian.specs.LittleEndian.{part}
use Rattle.codecs.specs.Codec.{Codec, row_stands}

module _ {A : Type 0} (c : Codec A) where
  -- a row of values that all stand
  pub all_stand : ((bs : List ℕ) → c.stands bs ≡ true) → (n : ℕ) (bs : List ℕ) → row_stands c n bs ≡ true
  unfolding row_stands
  all_stand h zero bs = refl
  all_stand h (suc n) bs = rw (h (take c.size bs)) (all_stand h n (drop c.size bs))

  tested_from : (test : ℕ → Bool) (a n : ℕ) (bs : List ℕ)
      → ((i : ℕ) → i < n → test (a + i) ≡ c.stands (part bs (c.size * i) c.size))
      → list_all test (range_with_len a n) ≡ row_stands c n bs
  unfolding row_stands
  tested_from test a zero bs h = refl
  tested_from test a (suc n) bs h =
      let e : (i : ℕ) → c.size * suc i ≡ c.size + c.size * i = λ i. mul-suc _ _ ∙ add_comm _ _ in
      ap₂ {A = Bool} {B = Bool} {C = Bool} ◌&&◌ (rw (add-zero, mul-zero) at (h 0 (omega arith)))
      (tested_from test (a + 1) n (drop c.size bs)
      (λ i l.
      let p : a + 1 + i ≡ a + suc i = omega arith in
      rw (p, drop-drop, ← (e i)) (h (suc i) (omega arith))))

  -- a row of n values, each tested by its number
  pub row_tested : (test : ℕ → Bool) (n : ℕ) (bs : List ℕ) → ((i : ℕ) → i < n → test i ≡ c.stands (part bs (c.size * i) c.size))
      → list_all test (range_with_len 0 n) ≡ row_stands c n bs
  row_tested test n bs h = tested_from test 0 n bs (λ i l. rw zero-add (h i l))
