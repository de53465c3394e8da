-- Each open by its number: its mark.
use Rattle.std.proofs.Common.{rules, refl}
use Rattle.std.proofs.lemmas.Iterator.{YieldsList-from_range}
use Rattle.std.proofs.lemmas.Iterator.Search.{all_from_yields_List}
use Rattle.base.{specs.Base.{ℕ, Bool, ltb, open_slots, ◌+◌, ◌*◌}, proofs.Laws.{sym, ◌∙◌}}
use Rattle.codecs.proofs.Standing.{row_tested}
use Rattle.layout.{specs.{Kinds.marks, Records.open_codec, Layout.{opens_at, open_size, open_mark_in}}, proofs.Stands.open_stands_at}
use Rattle.little_endian.specs.LittleEndian.{from_bytes, part}
use Rattle.layout_stands.proofs.opens_stand.Goals as goal

pub returns : goal.returns
returns c =
    let b = c.args.b.now in
    let test : ℕ → Bool = λ i. ltb (from_bytes (part b (opens_at + open_size * i + open_mark_in) 2)) marks in
    all_from_yields_List test _ _ _ c.all.ensures.ran (YieldsList-from_range 0 open_slots _ refl refl) (λ x d q k. search rules)
    ∙ row_tested open_codec test open_slots _ (λ i l. sym (open_stands_at b i))
