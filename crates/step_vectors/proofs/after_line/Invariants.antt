-- The loop's invariant: i is not before the line's start.
use Rattle.base.specs.Base.{◌≤◌}
use Rattle.step_vectors.proofs.after_line.Given as goal

abbrev pub invariant-loop-i : goal.invariant-loop-i
invariant-loop-i l = l.at ≤ l.i
