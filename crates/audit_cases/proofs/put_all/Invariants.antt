-- Each turn passes a change with its end. The loop's invariant: the change stands within the text.
use Rattle.base.specs.Base.{◌-◌, ◌≤◌, length}
use Rattle.audit_cases.proofs.put_all.Given as goal

abbrev pub invariant-loop-end : goal.invariant-loop-end
invariant-loop-end g l = (l.at ≤ l.end) × (l.end ≤ length l.text)

abbrev pub decreases-loop-end : goal.decreases-loop-end
decreases-loop-end g l = length l.text - l.end
