-- Each file by its number.
use Rattle.std.proofs.Common.{rules, refl}
use Rattle.std.proofs.lemmas.Iterator.{YieldsList-from_range}
use Rattle.std.proofs.lemmas.Iterator.Search.{all_from_yields_List}
use Rattle.base.{specs.Base.{ℕ, Bool, file_slots, ◌+◌, ◌*◌}, proofs.Laws.{sym, ◌∙◌}}
use Rattle.codecs.proofs.Standing.{row_tested}
use Rattle.layout.{specs.{Records.file_codec, Layout.{files_at, file_size}}, proofs.Stands.file_stands_at}
use Rattle.little_endian.specs.LittleEndian.{part}
use Rattle.layout_stands.proofs.files_stand.Goals as goal

pub returns : goal.returns
returns c =
    let b = c.args.b.now in
    let test : ℕ → Bool = λ i. file_codec.stands (part b (files_at + file_size * i) file_size) in
    all_from_yields_List test _ _ _ c.all.ensures.ran (YieldsList-from_range 0 file_slots _ refl refl) (λ x d q k. search rules)
    ∙ row_tested file_codec test file_slots _ (λ i l. sym (file_stands_at b i l))
