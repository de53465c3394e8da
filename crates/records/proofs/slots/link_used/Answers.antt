-- The code is the definition.
use Rattle.std.proofs.Common.{refl}
use Rattle.records.specs.Slots.{link_used}
use Rattle.records.proofs.slots.link_used.Goals as goal

pub returns : goal.returns
unfolding link_used
returns c = refl
