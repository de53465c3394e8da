-- The lengths, then what was read.
use Rattle.base.{specs.Base.{ℕ, List}, proofs.Laws.{refl, ◌∙◌}}
use Rattle.image.specs.Image.{Restoring}
use Rattle.image_read.proofs.Calls.{finish_tables, finish_spare, finish_refused, finish_done}
use Rattle.image_read.proofs.finish_image.Goals as goal

-- the state, by its parts
abbrev state : List ℕ → List ℕ → ℕ → Restoring
state tables spare reader = record { tables = tables; reading = record { spare = spare; reader = reader } }

pub returns-in_default : goal.returns-in_default
returns-in_default c = rw (finish_tables (state c.args.tables.now c.args.spare.now c.args.reader.now) c.in_default.ensures.cases) (record { reply = refl; state = refl })

pub returns-in_default-as_mut_array : goal.returns-in_default-as_mut_array
returns-in_default-as_mut_array c =
    let r = state c.args.tables.now c.args.spare.now c.args.reader.now in
    let tables = c.in-Some.ensures.cases.same in
    rw (finish_spare r c.in_default-as_mut_array.ensures.cases)
    (record { reply = refl; state = λ i. record { tables = tables i; reading = r.reading } })

pub returns-then-not-is_checked : goal.returns-then-not-is_checked
returns-then-not-is_checked c =
    let r = state c.args.tables.now c.args.spare.now c.args.reader.now in
    let ok = c.is_checked in
    let tables = c.in-Some.ensures.cases in
    let spare = c.in-Some-as_mut_array.ensures.cases in
    let left = c.refuse_reading.ensures in
    rw (finish_refused r tables.long spare.long ok.result (rw spare.same at ok.ensures) c.if-not-is_checked.true)
    (record { reply = left.reply; state = λ i. record { tables = tables.same i; reading = left.state i } })

pub returns : goal.returns
returns c =
    let r = state c.args.tables.now c.args.spare.now c.args.reader.now in
    let ok = c.is_checked in
    let tables = c.in-Some.ensures.cases in
    let spare = c.in-Some-as_mut_array.ensures.cases in
    let copied = c.copy.ensures ∙ spare.same in
    rw (finish_done r tables.long spare.long ok.result (rw spare.same at ok.ensures) c.if-not-is_checked.false)
    (record { reply = refl; state = λ i. record { tables = copied i; reading = record { spare = spare.same i; reader = 0 } } })
