-- .
use Rattle.audit_streams.specs.Streams.{has_streams}
use Rattle.audit_streams.proofs.file_has_streams.Goals as goal

pub returns : goal.returns
unfolding has_streams
returns c = rw (has_streams, ← c.is_used.ensures, ← c.is_directory.ensures)
