-- The open's action, handle and granted access.
use Rattle.base.proofs.Laws.{refl}
use Rattle.calls.proofs.answers.opened.Goals as goal

pub returns : goal.returns
returns c = refl
