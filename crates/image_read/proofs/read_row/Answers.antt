-- The number of the next block, then the length of the row, then its blocks.
use Rattle.base.specs.Base.{ℕ, List}
use Rattle.base.proofs.Laws.{◌∙◌}
use Rattle.image.specs.Image.{Reading}
use Rattle.image_read.proofs.Rows.{row_over, row_cut, row_whole}
use Rattle.image_read.proofs.read_row.Goals as goal

-- what reading has, by its parts
abbrev reading : List ℕ → ℕ → Reading
reading spare reader = record { spare = spare; reader = reader }

pub returns-then-first-gt-IMAGE_BLOCKS : goal.returns-then-first-gt-IMAGE_BLOCKS
returns-then-first-gt-IMAGE_BLOCKS c = row_over (reading c.args.spare.now c.args.first) c.args.row.now c.if-first-gt-IMAGE_BLOCKS.true

pub returns-then-row-ne0 : goal.returns-then-row-ne0
returns-then-row-ne0 c = row_cut (reading c.args.spare.now c.args.first) c.args.row.now c.if-row-ne0.true

pub returns : goal.returns
returns c =
    row_whole (reading c.args.spare.now c.args.first) c.args.row.now c.if-first-gt-IMAGE_BLOCKS.false c.if-row-ne0.false ∙ c.read_blocks.ensures
