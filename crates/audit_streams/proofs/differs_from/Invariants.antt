-- The invariant: what is asked is what the slots from j on say.
use Rattle.base.{specs.Base.{◌≡◌, drop, all, keep, bare, bare_used}}
use Rattle.consistency.specs.Good.{stream_names_differ}
use Rattle.audit_streams.specs.Streams.{free_or_differs}
use Rattle.audit_streams.proofs.{Streams.{streams}}
use Rattle.audit_streams.proofs.differs_from.Given as goal

abbrev pub invariant-loop-j : goal.invariant-loop-j
invariant-loop-j l =
    all (stream_names_differ (bare l.s)) (keep bare_used (drop l.from (streams l.b))) ≡ all (free_or_differs (bare l.s)) (drop l.j (streams l.b))
