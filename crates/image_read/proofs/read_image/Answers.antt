-- The length of the second set, then the row.
use Rattle.base.{specs.Base.{Bool, ℕ, List, ◌+◌, ◌≤◌, ◌≡◌, true, length}, proofs.Laws.{refl, rules}}
use Rattle.image.specs.{Blocks.image_blocks, Image.{Reading, blocks_in, read_row}}
use Rattle.image_read.specs.Reads.{or_corrupt}
use Rattle.image_read.proofs.{Rows.row_ends, Calls.{read_length, read_refused, read_done}}
use Rattle.image_read.proofs.read_image.Goals as goal

-- what reading has, by its parts
abbrev reading : List ℕ → ℕ → Reading
reading spare reader = record { spare = spare; reader = reader }

pub returns-in_default : goal.returns-in_default
returns-in_default c =
    rw (read_length (reading c.args.spare.now c.args.reader.now) c.args.row.now c.in_default.ensures.cases) (record { reply = refl; state = refl })

pub returns-then-not-read_row : goal.returns-then-not-read_row
returns-then-not-read_row c =
    let was = c.in-Some.ensures.cases in
    rw (read_refused (reading c.args.spare.now c.args.reader.now) c.args.row.now was.long _ c.read_row.result (rw was.same at c.read_row.ensures) c.if-not-read_row.true)
    c.refuse_reading.ensures

-- where the blocks of a row that was read end
within : (spare row : List ℕ) (first : ℕ) (after : List ℕ) {ok : Bool}
    → read_row (reading spare first) row ≡ or_corrupt ok (reading after (first + blocks_in (length row))) → ok ≡ true
    → first + blocks_in (length row) ≤ image_blocks
within spare row first after read passes = row_ends (reading spare first) row (reading after (first + blocks_in (length row))) (rw passes at read)

pub returns : goal.returns
returns c =
    let was = c.in-Some.ensures.cases in
    rw (read_done (reading c.args.spare.now c.args.reader.now) c.args.row.now was.long _ c.read_row.result (rw was.same at c.read_row.ensures) c.if-not-read_row.false)
    (record { reply = refl; state = refl })

pub overflow_cast-reader : goal.overflow_cast-reader
overflow_cast-reader c = let l = within c.in-Some.spare.now c.args.row.now c.args.reader.now _ c.read_row.ensures c.if-not-read_row.false in search rules

pub overflow_add-reader : goal.overflow_add-reader
overflow_add-reader c = let l = within c.in-Some.spare.now c.args.row.now c.args.reader.now _ c.read_row.ensures c.if-not-read_row.false in search rules
