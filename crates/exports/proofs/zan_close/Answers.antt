-- The call's, with its status in a number.
use Rattle.base.proofs.Laws.{rules}
use Rattle.exports.proofs.Returned.{status_returned}
use Rattle.exports.proofs.zan_close.Goals as goal

pub returns : goal.returns
returns c = status_returned c.close-answer.ensures c.status_of.ensures
