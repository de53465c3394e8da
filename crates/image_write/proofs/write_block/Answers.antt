-- Number and content over zeros, then the check over them.
use Rattle.base.{specs.Base.{ℕ, replicate}, proofs.Laws.{refl, ◌∙◌, ap, arith}}
use Rattle.image.specs.Blocks.{record_of, number_size}
use Rattle.little_endian.proofs.Numbers.{after}
use Rattle.image_write.proofs.{Blocks.block_written, Kept.content_room}
use Rattle.image_write.specs.Kept.{kept_content}
use Rattle.image_write.proofs.write_block.Goals as goal

pub returns : goal.returns
returns c =
    let a = c.args in
    let room = content_room a.tables.now (record_of a.n) in
    block_written a.n (kept_content a.tables.now (record_of a.n)) (omega arith)
    (c.clear.ensures ∙ ap (λ (k : ℕ). replicate k 0) c.told-block)
    (after number_size a.n refl c.write_u32.ensures c.write_content.ensures)
    (rw c.block_check-check.ensures at c.write_u16.ensures)
