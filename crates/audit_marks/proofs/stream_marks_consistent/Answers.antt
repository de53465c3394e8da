use Rattle.base.{specs.Base.{ℕ, stream_slots, zero_bare, bare, bare_at, namespace}, proofs.Laws.{refl, rules, ◌∙◌, length-map}}
use borrow.Author.Tests.{tests}
use Rattle.std.proofs.lemmas.Iterator.{YieldsList-from_range}
use Rattle.std.proofs.lemmas.Iterator.Search.{all_from_yields_List}
use Rattle.children.proofs.Ranges.{all_numbered}
use Rattle.consistency.specs.Test.{stream_mark_test}
use Rattle.layout.{specs.Layout.decode, proofs.Lengths.streams_count}
use Rattle.audit_marks.proofs.stream_marks_consistent.Goals as goal

pub returns : goal.returns
unfolding bare_at namespace
returns c =
    let b = c.args.b.now in
    let t = decode b in
    let streams = (namespace t.volume).streams in
    all_numbered zero_bare _ (stream_mark_test t.opens.rows) streams (length-map t.volume.streams bare ∙ streams_count b) (λ i. refl)
    (all_from_yields_List (λ (i : ℕ). stream_mark_test t.opens.rows i (bare_at streams (record { 0 = i }))) _ _ _ c.all.ensures.ran
    (YieldsList-from_range 0 stream_slots stream_slots refl refl) (λ x b q k. search (rules, tests)))
