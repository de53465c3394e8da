-- The invariant: what is left to clear are the records from slot i on.
use Rattle.layout.specs.Layout.{decode}
use Rattle.settle.proofs.Underway.{Underway}
use Rattle.settle.proofs.clear.Given as goal

abbrev pub invariant-loop-i : goal.invariant-loop-i
invariant-loop-i g l =
    let t = g.T.OfFile in
    Underway l.initial.b l.b (t.without_from l.i l.f) (t.without_from 0 l.f (decode l.initial.b))
