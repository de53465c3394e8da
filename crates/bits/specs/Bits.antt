-- A number as the set of its bits. Access masks, create options, attributes and sharing modes are such sets.
use Rattle.std.specs.Prelude.{ℕ, ◌-◌, Bool, not}
use lib.{Bits.bit_and, Dec.eqb}

-- every bit of a is in m
unfoldable pub within : ℕ → ℕ → Bool
within a m = eqb (bit_and a m) a

-- some bit of m is in a
unfoldable pub has : ℕ → ℕ → Bool
has a m = not (eqb (bit_and a m) 0)

-- a less the bits of m
unfoldable pub without : ℕ → ℕ → ℕ
without a m = a - bit_and a m
