-- The code is the definition.
use Rattle.base.proofs.Laws.{refl}
use Rattle.image.specs.Image.{whole_blocks}
use Rattle.image_write.proofs.row_fits.Goals as goal

pub returns : goal.returns
unfolding whole_blocks
returns c = refl
