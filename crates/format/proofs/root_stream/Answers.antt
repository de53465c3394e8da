-- The code is the definition.
use Rattle.base.proofs.Laws.{refl}
use Rattle.format.proofs.root_stream.Goals as goal

pub returns : goal.returns
returns c = refl
