-- By evaluation of the definitions.
use Rattle.base.proofs.Laws.{refl}
use Rattle.step_vectors.specs.Vectors.{computes}
use Rattle.step_vectors.proofs.vectors.deletes.Goals as goal

pub returns : goal.returns
unfolding computes
returns c = refl
