use Rattle.image_alone.proofs.{Formed.alone_within}
use Rattle.image_alone.proofs.block_alone.Goals as goal

pub returns-then-well_formed : goal.returns-then-well_formed
returns-then-well_formed c =
    let a = c.args in
    rw (
      alone_within a.n a.block.now,
      ← c.well_formed-2.ensures,
      c.if-well_formed.true,
      ← c.record_of.ensures,
    )
    c.record_alone.ensures

pub returns-else-well_formed : goal.returns-else-well_formed
returns-else-well_formed c =
    let a = c.args in
    rw (alone_within a.n a.block.now, ← c.well_formed-2.ensures, c.if-well_formed.false)
