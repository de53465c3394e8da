-- Each turn passes a line with its end.
use Rattle.base.specs.Base.{◌-◌, length}
use Rattle.audit_cases.proofs.answer_lines.Given as goal

abbrev pub decreases-loop-at : goal.decreases-loop-at
decreases-loop-at g l = length l.input - l.at
