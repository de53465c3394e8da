use Rattle.base.{specs.Base.{ℕ, file_slots, zero_file}, proofs.Laws.{refl, rules}}
use borrow.Author.Tests.{tests}
use Rattle.std.proofs.lemmas.Iterator.{YieldsList-from_range}
use Rattle.std.proofs.lemmas.Iterator.Search.{all_from_yields_List}
use Rattle.children.proofs.Ranges.{all_numbered}
use Rattle.consistency.specs.Test.{file_mark_test}
use Rattle.layout.{specs.Layout.decode, proofs.Lengths.files_count}
use Rattle.tables.specs.Tables.{file_at}
use Rattle.audit_marks.proofs.file_marks_consistent.Goals as goal

pub returns : goal.returns
unfolding file_at
returns c =
    let b = c.args.b.now in
    let v = (decode b).volume in
    all_numbered zero_file _ (file_mark_test v.links (decode b).opens.rows) v.files (files_count b) (λ i. refl)
    (all_from_yields_List (λ (i : ℕ). file_mark_test v.links (decode b).opens.rows i (file_at v.files (record { 0 = i }))) _ _ _ c.all.ensures.ran
    (YieldsList-from_range 0 file_slots file_slots refl refl) (λ x b q k. search (rules, tests)))
