-- The invariant: what is asked is what the streams from i on say.
use Rattle.base.{specs.Base.{◌≡◌, drop, keep, pairs, bare_used}}
use Rattle.consistency.specs.Good.{stream_names_differ}
use Rattle.audit_streams.proofs.{Streams.{streams}}
use Rattle.audit_streams.proofs.names_differ.Given as goal

abbrev pub invariant-loop-i : goal.invariant-loop-i
invariant-loop-i l = pairs stream_names_differ (keep bare_used (streams l.b)) ≡ pairs stream_names_differ (keep bare_used (drop l.i (streams l.b)))
