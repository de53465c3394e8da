use Rattle.base.{specs.Base.{ℕ, file_slots, zero_file}, proofs.Laws.{refl, rules}}
use borrow.Author.Tests.{tests}
use Rattle.std.proofs.lemmas.Iterator.{YieldsList-from_range}
use Rattle.std.proofs.lemmas.Iterator.Search.{all_from_yields_List}
use Rattle.children.proofs.Ranges.{all_numbered}
use Rattle.layout.{specs.Layout.decode, proofs.Lengths.files_count}
use Rattle.tables.specs.Tables.{file_at}
use Rattle.audit_streams.specs.Streams.{have_streams}
use Rattle.audit_streams.proofs.files_have_streams.Goals as goal

pub returns : goal.returns
unfolding file_at
returns c =
    let a = c.args in
    let files = (decode a.b.now).volume.files in
    let test = have_streams a.all.now a.unnamed.now in
    all_numbered zero_file _ test files (files_count a.b.now) (λ i. refl)
    (all_from_yields_List (λ (i : ℕ). test i (file_at files (record { 0 = i }))) _ _ _ c.all.ensures.ran
    (YieldsList-from_range 0 file_slots file_slots refl refl) (λ x b q k. search (rules, tests)))
