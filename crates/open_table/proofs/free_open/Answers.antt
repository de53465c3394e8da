use Rattle.std.proofs.Common.{rules, tests}
use Rattle.std.proofs.lemmas.Iterator.{first_from_Range}
use Rattle.base.specs.Base.{Open, not, open_used, true, false}
use Rattle.layout.{specs.Layout.decode, proofs.Lengths.opens_count}
use Rattle.tables.specs.Tables.{row_at}
use Rattle.open_table.proofs.Asked.{Answers, lowest_is}
use Rattle.open_table.proofs.free_open.Goals as goal

pub returns : goal.returns
unfolding row_at open_used
returns c =
    let free = λ (o : Open). not (open_used o) in
    let os = (decode c.args.b.now).opens.rows in
    let n = opens_count c.args.b.now in
    let h = first_from_Range _ _ _ c.find.result (λ k. Answers free os k true) (λ k. Answers free os k false) c.find.ensures.ran (λ x q k. search (rules, tests)) (λ x q k. search (rules, tests)) in
    lowest_is free os c.find.result (rw n h)
