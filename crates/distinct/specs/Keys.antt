-- Keys: a number for each record of a table.
use Rattle.base.specs.Base.{ℕ, Bool, not, eqb}

-- 0 is no key: a free slot has none
unfoldable pub is_key : ℕ → Bool
is_key k = not (eqb k 0)

unfoldable pub differ : ℕ → ℕ → Bool
differ j k = not (eqb j k)
