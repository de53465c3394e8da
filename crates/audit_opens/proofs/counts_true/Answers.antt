-- The test of the counts is that of those found.
use Rattle.base.{specs.Base.{ℕ, get_or, stream_slots, zero_stream, zero_counts}, proofs.Laws.{refl, sym, ◌∙◌, rules}}
use borrow.Author.Tests.{tests}
use Rattle.std.proofs.lemmas.Iterator.{YieldsList-from_range}
use Rattle.std.proofs.lemmas.Iterator.Search.{all_from_yields_List}
use Rattle.children.proofs.Ranges.{all_numbered}
use Rattle.consistency.specs.Test.{same_counts}
use Rattle.layout.{specs.Layout.decode, proofs.Lengths.streams_count}
use Rattle.tables.specs.Tables.{stream_at}
use Rattle.audit_opens.proofs.{CountsScan.{found_test, counts_found}}
use Rattle.audit_opens.proofs.counts_true.Goals as goal

pub returns : goal.returns
unfolding stream_at
returns c =
    let b = c.args.b.now in
    let streams = (decode b).volume.streams in
    let found = c.counts_found-counts.result in
    all_numbered zero_stream _ (found_test found) streams (streams_count b) (λ i. refl)
    (all_from_yields_List (λ (i : ℕ). found_test found i (stream_at streams (record { 0 = i }))) _ _ _ c.all.ensures.ran
    (YieldsList-from_range 0 stream_slots stream_slots refl refl) (λ x b q k. search (rules, tests)))
    ∙ sym (counts_found streams (decode b).opens.rows stream_slots found (streams_count b) c.counts_found-counts.ensures)
