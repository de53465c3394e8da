-- The type of the file.
use Rattle.std.proofs.Common.{refl}
use Rattle.records.specs.Slots.{file_used}
use Rattle.records.proofs.slots.file_used.Goals as goal

pub returns : goal.returns
unfolding file_used
returns c = c.is_used.ensures
