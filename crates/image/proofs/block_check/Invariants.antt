-- A turn of the loop adds one byte more.
use Rattle.base.{specs.Base.{take}}
use Rattle.image.proofs.{Check.{Summed}}
use Rattle.image.specs.Blocks.{check_at}
use Rattle.image.proofs.block_check.Given as goal

abbrev pub invariant-loop-byte : goal.invariant-loop-byte
invariant-loop-byte l = Summed (take check_at l.block) l.sum l.byte-index
