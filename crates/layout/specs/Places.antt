-- Where a slot's record stands.
use Rattle.std.specs.Prelude.{◌+◌, ◌*◌, ◌<◌, ◌≡◌}
use Rattle.base.specs.Base.{ℕ}
use Rattle.layout.specs.declared.places.Table.{Table}

-- the slot is one of the table, and its record stands there
pub record IsPlace (t : Table) (slot at : ℕ) : Type 0 where
  pub within : slot < t.slots
  pub is : at ≡ t.at + t.size * slot
