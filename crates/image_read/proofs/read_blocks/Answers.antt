use Rattle.base.{specs.Base.{ℕ, List, []}, proofs.Laws.{sym, ◌∙◌, arith}}
use Rattle.image.specs.{Image.Reading}
use Rattle.image_read.proofs.Blocks.{chunk, read_none, read_next, read_stops, read_ends}
use Rattle.image_read.proofs.read_blocks.Goals as goal

-- what reading has, by its parts
abbrev reading : List ℕ → ℕ → Reading
reading spare reader = record { spare = spare; reader = reader }

pub returns-then-not-block_alone : goal.returns-then-not-block_alone
returns-then-not-block_alone c =
    let s = reading c.args.spare.now c.args.first in
    let row = c.args.row.now in
    let l = c.loop-i in
    let block = chunk s row l.i [] c.as_chunks.ensures.front (omega arith) in
    read_stops s row l.spare l.i l.invariant (omega arith) (rw block at (sym c.block_alone.ensures ∙ c.if-not-block_alone.true))

pub loop-i-preserved : goal.loop-i-preserved
loop-i-preserved c =
    let s = reading c.args.spare.now c.args.first in
    let row = c.args.row.now in
    let l = c.loop-i in
    let block = chunk s row l.i [] c.as_chunks.ensures.front (omega arith) in
    read_next s row l.spare l.i l.invariant (omega arith) (rw block at (sym c.block_alone.ensures ∙ c.if-not-block_alone.false))
    (rw block at c.put_block.ensures)

pub returns : goal.returns
returns c =
    let l = c.loop-i in
    read_ends (reading c.args.spare.now c.args.first) c.args.row.now l.spare l.i l.invariant (omega arith)

pub loop-i-init : goal.loop-i-init
loop-i-init c = read_none _ _
