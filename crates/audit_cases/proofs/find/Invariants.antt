-- The loop's invariant: i is not before the place where the search began.
use Rattle.base.specs.Base.{◌≤◌}
use Rattle.audit_cases.proofs.find.Given as goal

abbrev pub invariant-loop-i : goal.invariant-loop-i
invariant-loop-i l = l.at ≤ l.i
