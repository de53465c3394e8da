-- The tests are those by which a block is well formed.
use Rattle.base.proofs.Laws.{arith}
use borrow.Author.Tests.{le-ltb}
use Rattle.image.specs.Blocks.{image_blocks}
use Rattle.image_alone.proofs.{Formed.{formed, record_fits}}
use Rattle.image_alone.proofs.well_formed.Goals as goal

pub returns-then-n-ge-IMAGE_BLOCKS : goal.returns-then-n-ge-IMAGE_BLOCKS
returns-then-n-ge-IMAGE_BLOCKS c = rw (le-ltb c.args.n image_blocks (omega arith))

pub slice_bounds-is_clear-count : goal.slice_bounds-is_clear-count
slice_bounds-is_clear-count c =
    omega (arith, c.record_end-end.ensures, record_fits c.record_of-held.result)

pub slice_bounds-is_clear-start : goal.slice_bounds-is_clear-start
slice_bounds-is_clear-start c =
    omega (arith, c.record_end-end.ensures, record_fits c.record_of-held.result)

pub returns : goal.returns
returns c =
    let a = c.args in
    rw (
      formed a.block.now (omega arith) (λ i. omega (arith, c.fits-block i)) a.n (omega arith),
      ← c.read_u32.ensures,
      ← c.record_of-held.ensures,
      ← c.prefaced.ensures,
      ← c.record_end-end.ensures,
      ← c.is_clear.ensures,
      ← c.read_u16.ensures,
      ← c.block_check.ensures,
    )
