-- How a name stands in a record.
use Rattle.std.specs.Prelude.{◌∷◌}
use Rattle.base.specs.Base.{ℕ, zero, suc, Bool, List, [], padded, same}

-- the units of a stored name: those before the first zero
unfoldable pub units : List ℕ → List ℕ
units [] = []
units (zero ∷ us) = []
units (suc u ∷ us) = suc u ∷ units us

-- a stored name has `limit` places, and the unused ones are zero
unfoldable pub well_stored : ℕ → List ℕ → Bool
well_stored limit n = same n (padded limit (units n))
