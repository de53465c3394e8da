-- The check of a block: a sum of bytes, one byte after another, and its two lowest bytes.
use Prim.Native.Nat.{◌%◌, ◌/◌}
use native.Mathlib.Nat.{mod-add-div, mod-lt}
use lib.Seq.{take-suc}
use Rattle.base.{specs.Base.{ℕ, ◌+◌, ◌*◌, ◌≤◌, ◌<◌, ◌≡◌, List, [], ◌∷◌, ◌++◌, length, get_or, take}, proofs.Laws.{refl, sym, ◌∙◌, ap, arith}}
use native.Mathlib.Numerals.{add-one}
use mathlib.Core.List.{append-nil}
use Rattle.little_endian.{proofs.Numbers.to_sum, specs.LittleEndian.to_bytes}
use Rattle.image.specs.Blocks.{byte_sum}

sum-append : (xs ys : List ℕ) → byte_sum (xs ++ ys) ≡ byte_sum xs + byte_sum ys
unfolding byte_sum
sum-append [] ys = omega arith
sum-append (x ∷ xs) ys = rw (sum-append xs ys) (omega arith)

-- what a loop has added up after i bytes
pub record Summed (bs : List ℕ) (sum i : ℕ) : Type 0 where
  pub is : sum ≡ byte_sum (take i bs)
  pub at_most : sum ≤ 255 * i

pub summed_none : (bs : List ℕ) → Summed bs 0 0
unfolding byte_sum
summed_none bs = record { is = refl; at_most = omega arith }

pub summed_next : (bs : List ℕ) (sum i : ℕ) → Summed bs sum i → i < length bs → get_or bs i 0 < 256 → Summed bs (sum + get_or bs i 0) (i + 1)
unfolding byte_sum
summed_next bs sum i s h b =
    record {
      is = rw (add-one, take-suc bs i 0 h, sum-append (take i bs) (get_or bs i 0 ∷ []), ← s.is) (omega arith);
      at_most = omega (arith, s.at_most);
    }

-- the lowest two bytes of a sum are those of the sum modulo 65,536
pub check_bytes : (x : ℕ) → to_bytes 2 (x % 65536) ≡ to_bytes 2 x
unfolding to_bytes
check_bytes x =
    sym (ap (to_bytes 2) (sym (mod-add-div x 65536)) ∙ to_sum 2 0 (x % 65536) (x / 65536) (mod-lt x (omega arith)) ∙ append-nil (to_bytes 2 (x % 65536)))
