-- The audit's answer in a number.
use Rattle.base.proofs.Laws.{rules}
use Rattle.exports.proofs.zan_audit.Goals as goal

pub returns-then-audit : goal.returns-then-audit
returns-then-audit c = rw (← c.audit.ensures, c.if-audit.true)

pub returns-else-audit : goal.returns-else-audit
returns-else-audit c = rw (← c.audit.ensures, c.if-audit.false)
