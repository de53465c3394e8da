-- The invariant: what is left is to read the rest of the row.
use Rattle.image_read.proofs.Blocks.{ReadTo}
use Rattle.image_read.proofs.read_blocks.Given as goal

abbrev pub invariant-loop-i : goal.invariant-loop-i
invariant-loop-i l = ReadTo (record { spare = l.initial.spare; reader = l.first }) l.row l.spare l.i
