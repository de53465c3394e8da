-- The invariant: the streams from i on were passed.
use Rattle.layout.{specs.Layout.decode}
use Rattle.audit_streams.proofs.{Streams.{streams}, Pass.{Passed}}
use Rattle.audit_streams.proofs.streams_consistent.Given as goal

abbrev pub invariant-loop-i : goal.invariant-loop-i
invariant-loop-i l = Passed (decode l.b).volume.files (streams l.b) l.keys l.all l.unnamed l.i
