-- The tests refuse as the definition does, and a turn of the loop writes one block
-- more.
use Rattle.base.{specs.Base.{◌+◌, ◌*◌}}
use Rattle.image.specs.Blocks.{block_size, without_opens}
use Rattle.layout.{specs.Layout.{encode, decode}}
use Rattle.image_write.proofs.{Rows.{Writing}}
use Rattle.image_write.proofs.write_image.Given as goal

abbrev pub invariant-loop-i : goal.invariant-loop-i
invariant-loop-i l = Writing (encode (without_opens (decode l.tables))) l.first l.initial.row l.row (l.first + l.i) (block_size * l.i)
