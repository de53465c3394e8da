-- The test of the live rows is that of all, free or not.
use Rattle.base.{specs.Base.{ℕ, not, ◌||◌, open_slots, open_used, zero_open, Open}, proofs.Laws.{refl, sym, ◌∙◌, rules, all_keep}}
use borrow.Author.Tests.{tests}
use Rattle.std.proofs.lemmas.Iterator.{YieldsList-from_range}
use Rattle.std.proofs.lemmas.Iterator.Search.{all_from_yields_List}
use Rattle.children.proofs.Ranges.{all_placed}
use Rattle.layout.{specs.Layout.decode, proofs.Lengths.opens_count}
use Rattle.tables.specs.Tables.{row_at, live}
use Rattle.audit_conflicts.specs.Others.{agrees_with_others, others_test}
use Rattle.audit_conflicts.proofs.no_conflicts.Goals as goal

pub returns : goal.returns
unfolding others_test live row_at
returns c =
    let b = c.args.b.now in
    let t = decode b in
    let passes = λ (o : Open). not (open_used o) || agrees_with_others t.volume.streams o in
    all_placed zero_open _ passes t.opens.rows (opens_count b) (λ i. refl)
    (all_from_yields_List (λ (i : ℕ). passes (row_at t.opens i)) _ _ _ c.all.ensures.ran
    (YieldsList-from_range 0 open_slots open_slots refl refl) (λ x b q k. search (rules, tests)))
    ∙ sym (all_keep open_used (agrees_with_others t.volume.streams) t.opens.rows)
