-- The code is the definition.
use Rattle.base.proofs.Laws.{refl}
use Rattle.format.specs.Format.{root_file}
use Rattle.format.proofs.root_file.Goals as goal

pub returns : goal.returns
unfolding root_file
returns c = refl
