-- By what is pending.
use Rattle.open_steps.specs.Pendings.{as_pending}
use Rattle.complete.proofs.complete_pending.Goals as goal

pub returns-in-Existing : goal.returns-in-Existing
unfolding as_pending
returns-in-Existing c = rw c.in-Existing.is (c.complete_existing.ensures c.args.path.now)

pub returns-in-NewStream : goal.returns-in-NewStream
unfolding as_pending
returns-in-NewStream c = rw c.in-NewStream.is (c.complete_stream.ensures c.args.path.now)

pub returns-in-NewFile : goal.returns-in-NewFile
unfolding as_pending
returns-in-NewFile c = rw c.in-NewFile.is c.complete_file.ensures
