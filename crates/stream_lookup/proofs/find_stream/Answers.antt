use Rattle.std.specs.Prelude.{None, Some, MatchOption}
use Rattle.std.specs.Option.{IsSomeAnd}
use Rattle.std.specs.Prelude as code
use Rattle.std.proofs.Common.{rules, tests}
use Rattle.std.proofs.lemmas.Iterator.{first_from_Range}
use Rattle.base.{specs.Base.{ℕ, ◌≡◌, true, false, some, bare, namespace, zero_stream, as_option, Stream, StreamNo}, proofs.Laws.{sym, ap, ◌∙◌, after_map}}
use Rattle.layout.{specs.Layout.decode, proofs.Lengths.streams_count}
use Rattle.tables.specs.Tables.{stream_at}
use Rattle.stream_lookup.specs.StreamLookup.{stream_matches, stream_number, find_stream}
use Rattle.stream_lookup.proofs.Lowest.{Answers, lowest_is}
use Rattle.stream_lookup.proofs.find_stream.Goals as goal

-- the place that is found, as a stream's number
numbered : (r : code.Option ℕ) (s : code.Option StreamNo) {P : ℕ → StreamNo → Type 0} → MatchOption r (s ≡ None) (λ x. IsSomeAnd s (P x))
    → ((x : ℕ) (n : StreamNo) → P x n → n ≡ record { 0 = x }) → as_option s ≡ stream_number (as_option r)
unfolding as_option stream_number
numbered None s w f = rw w
numbered (Some x) None w f = absurd w
numbered (Some x) (Some n) w f = ap some (f x n w)

pub returns : goal.returns
unfolding find_stream namespace stream_at
returns c =
    let a = c.args in
    let p = λ (s : Stream). stream_matches a.fold a.file a.name.now (bare s) in
    let ss = (decode a.b.now).volume.streams in
    let n = streams_count a.b.now in
    let h = first_from_Range _ _ _ c.find.result (Answers p zero_stream ss true) (Answers p zero_stream ss false) c.find.ensures.ran (λ x q k. search (rules, tests)) (λ x q k. search (rules, tests)) in
    numbered c.find.result c.map.result c.map.ensures.cases (λ x n q. search rules)
    ∙ ap stream_number (lowest_is p zero_stream ss c.find.result (rw n h) ∙ sym (after_map bare (stream_matches a.fold a.file a.name.now) 0 ss))
