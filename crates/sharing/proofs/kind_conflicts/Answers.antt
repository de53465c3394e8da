-- The code is the definition's four tests.
use Rattle.base.proofs.Laws.{refl}
use Rattle.sharing.proofs.kind_conflicts.Goals as goal

pub returns : goal.returns
returns c = refl
