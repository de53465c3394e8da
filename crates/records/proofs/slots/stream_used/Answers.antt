-- The type of the stream.
use Rattle.std.proofs.Common.{refl}
use Rattle.records.specs.Slots.{stream_used}
use Rattle.records.proofs.slots.stream_used.Goals as goal

pub returns : goal.returns
unfolding stream_used
returns c = c.is_used.ensures
