use Rattle.codecs.proofs.Bytes.{take_bytes}
use Rattle.image.proofs.{Check.{summed_none, summed_next}}
use Rattle.image.specs.Blocks.{check_at}
use Rattle.image.proofs.block_check.Goals as goal

pub loop-byte-init : goal.loop-byte-init
loop-byte-init c = summed_none _

pub loop-byte-preserved : goal.loop-byte-preserved
loop-byte-preserved c =
    rw c.from-sum.ensures
    (summed_next _ _ _ c.loop-byte.invariant c.loop-byte-test.true (take_bytes check_at _ c.fits-block c.loop-byte.byte-index))
