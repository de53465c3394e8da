-- Each stream by its number.
use Rattle.std.proofs.Common.{rules, refl}
use Rattle.std.proofs.lemmas.Iterator.{YieldsList-from_range}
use Rattle.std.proofs.lemmas.Iterator.Search.{all_from_yields_List}
use Rattle.base.{specs.Base.{ℕ, Bool, stream_slots, ◌+◌, ◌*◌}, proofs.Laws.{sym, ◌∙◌}}
use Rattle.codecs.proofs.Standing.{row_tested}
use Rattle.layout.{specs.{Records.stream_codec, Layout.{streams_at, stream_size}}, proofs.Stands.stream_stands_at}
use Rattle.little_endian.specs.LittleEndian.{part}
use Rattle.layout_stands.proofs.streams_stand.Goals as goal

pub returns : goal.returns
returns c =
    let b = c.args.b.now in
    let test : ℕ → Bool = λ i. stream_codec.stands (part b (streams_at + stream_size * i) stream_size) in
    all_from_yields_List test _ _ _ c.all.ensures.ran (YieldsList-from_range 0 stream_slots _ refl refl) (λ x d q k. search rules)
    ∙ row_tested stream_codec test stream_slots _ (λ i l. sym (stream_stands_at b i l))
