-- The length decides, then the masks, and then the bytes are those of fresh tables.
use Rattle.base.{specs.Base.{ℕ, List}, proofs.Laws.{refl, sym, ◌∙◌, ap, arith}}
use Rattle.layout.specs.Layout.{encode}
use Rattle.format.proofs.{Written.encoded, Bytes.{valid-count, masks_whole, other_length, invalid_masks, formatted}}
use Rattle.format.specs.Format.{fresh_tables}
use Rattle.format.proofs.format.Goals as goal

pub returns-in_default : goal.returns-in_default
returns-in_default c =
    let a = c.args in
    rw (other_length a.b.now a.masks.now a.read_only c.in_default.ensures.cases) (record { reply = refl; state = refl })

pub returns-then-not-valid_masks : goal.returns-then-not-valid_masks
returns-then-not-valid_masks c =
    let m = c in
    let a = m.args in
    rw (invalid_masks a.b.now a.masks.now a.read_only (omega (arith, c.in-Some.ensures.cases.long))
    (sym m.valid_masks.ensures ∙ c.if-not-valid_masks.true))
    (record { reply = refl; state = c.in-Some.ensures.cases.same })

pub returns : goal.returns
returns c =
    let w = c in
    let m = w in
    let a = m.args in
    let valid = sym m.valid_masks.ensures ∙ w.if-not-valid_masks.false in
    let same = w.copied.ensures ∙ masks_whole a.masks.now (valid-count a.masks.now valid) in
    rw (formatted a.b.now a.masks.now a.read_only (omega (arith, c.in-Some.ensures.cases.long)) valid)
    (record {
      reply = refl;
      state = encoded (λ i. omega (arith, c.type_inv.b i)) w.write_fresh.ensures ∙ ap (λ (ms : List ℕ). encode (fresh_tables ms a.read_only)) same;
    })
