-- The code is the definition.
use Rattle.std.proofs.Common.{refl}
use Rattle.records.specs.Slots.{open_used}
use Rattle.records.proofs.slots.open_used.Goals as goal

pub returns : goal.returns
unfolding open_used
returns c = refl
