-- The invariant: the counts are those of the rows from i on.
use Rattle.layout.{specs.Layout.decode}
use Rattle.audit_opens.proofs.{CountsScan.{CountsPass}}
use Rattle.audit_opens.proofs.counts_found.Given as goal

abbrev pub invariant-loop-i : goal.invariant-loop-i
invariant-loop-i l = CountsPass (decode l.b).opens.rows l.counts l.i
