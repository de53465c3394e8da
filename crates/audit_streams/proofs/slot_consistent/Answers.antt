-- A used slot by the one test, a free one by the other.
use Rattle.base.{specs.Base.{bare, bare_used, stream_used}}
use Rattle.audit_streams.proofs.slot_consistent.Goals as goal

pub returns-then-stream_used : goal.returns-then-stream_used
unfolding bare_used bare stream_used
returns-then-stream_used c = rw (← c.stream_used.ensures, c.if-stream_used.true) c.good_stream.ensures

pub returns-else-stream_used : goal.returns-else-stream_used
unfolding bare_used bare stream_used
returns-else-stream_used c = rw (← c.stream_used.ensures, c.if-stream_used.false) c.is_zero_stream.ensures
