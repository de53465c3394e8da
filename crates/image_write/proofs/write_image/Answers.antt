use Rattle.base.{specs.Base.{◌+◌, ◌-◌, ◌*◌, ◌<◌, ◌≤◌, ◌≡◌, true, false, length}, proofs.Laws.{refl, sym, ◌∙◌, arith, rules, ne_eqb, length-take, length-drop}}
use Rattle.audit.specs.Sound.{sound_bytes}
use Rattle.image.specs.Blocks.{block_size}
use Rattle.layout.{specs.Layout.{tables_size}, proofs.Stands.tables_stand}
use Rattle.image_laws.proofs.SavedSound.{sound_stands}
use Rattle.image_write.proofs.{Kept.kept_block_lem, Rows.{Room, room, writing_begins, writing-long, next_room, next_block, writing_turn, writing_ends, unsound, no_room, filled}}
use Rattle.image_write.proofs.write_image.Goals as goal

pub returns-in_default : goal.returns-in_default
unfolding sound_bytes
returns-in_default c =
    let a = c.args in
    rw (unsound a.tables.now a.first a.row.now (rw (tables_stand a.tables.now, ne_eqb (length a.tables.now) tables_size c.in_default.ensures.cases)))
    (record { reply = refl; state = refl })

pub returns-then-not-audit : goal.returns-then-not-audit
returns-then-not-audit c =
    let a = c.args in
    rw (unsound a.tables.now a.first a.row.now (rw c.in-Some.ensures.cases.same at (sym c.audit.ensures ∙ c.if-not-audit.true)))
    (record { reply = refl; state = refl })

pub returns-then-not-row_fits : goal.returns-then-not-row_fits
returns-then-not-row_fits c =
    let a = c.args in
    -- looked for by what it says, whichever test stands before
    let sound : sound_bytes a.tables.now ≡ true = search (rules, c.in-Some.ensures.cases.same) in
    rw (no_room a.tables.now a.first a.row.now sound (sym c.row_fits.ensures ∙ c.if-not-row_fits.true))
    (record { reply = refl; state = refl })

pub loop-i-init : goal.loop-i-init
loop-i-init c = let e : c.args.first + 0 ≡ c.args.first = omega arith in rw e (writing_begins _ _ _)

pub loop-i-preserved : goal.loop-i-preserved
loop-i-preserved c =
    let l = c.loop-i in
    let has = room c.args.first (length c.args.row.now) (sym c.row_fits.ensures ∙ c.if-not-row_fits.false) in
    let n : c.args.first + (l.i + 1) ≡ c.args.first + l.i + 1 = omega arith in
    let at : block_size * (l.i + 1) ≡ block_size * l.i + block_size = omega arith in
    rw (n, at)
    (writing_turn has l.invariant (block_size * l.i + block_size - block_size * l.i) (omega (arith, has.whole, c.loop-i-test.true)) (omega arith)
    (c.write_part.auto.part ∙ simp (length-take, length-drop) (omega (arith, writing-long l.invariant, has.whole, c.loop-i-test.true)))
    (c.write_part.ensures
    ∙ rw c.in-Some.ensures.cases.same (kept_block_lem c.args.tables.now (λ i. omega (arith, c.type_inv.tables i)) (sound_stands c.args.tables.now (rw c.in-Some.ensures.cases.same at (sym c.audit.ensures ∙ c.if-not-audit.false))) (c.args.first + l.i))))

pub returns : goal.returns
returns c =
    let a = c.args in
    let same = c.in-Some.ensures.cases.same in
    let fits = sym c.row_fits.ensures ∙ c.if-not-row_fits.false in
    let has = room a.first (length a.row.now) fits in
    rw (filled a.tables.now a.first a.row.now (rw same at (sym c.audit.ensures ∙ c.if-not-audit.false)) fits)
    (record { reply = refl; state = rw same at (writing_ends has c.loop-i.invariant (omega (arith, has.whole, c.loop-i-test.false))) })

pub write_part-requires : goal.write_part-requires
write_part-requires c =
    let has = room c.args.first (length c.args.row.now) (sym c.row_fits.ensures ∙ c.if-not-row_fits.false) in
    let long = writing-long c.loop-i.invariant in
    simp (length-take, length-drop) (omega (arith, long, has.whole, c.loop-i-test.true))

pub overflow_mul-at : goal.overflow_mul-at
overflow_mul-at c = record { fits = omega arith }

pub overflow_add-end : goal.overflow_add-end
overflow_add-end c = record { fits = omega arith }

pub overflow_cast-i : goal.overflow_cast-i
overflow_cast-i c =
    let has = room c.args.first (length c.args.row.now) (sym c.row_fits.ensures ∙ c.if-not-row_fits.false) in
    record { fits = omega (arith, has.last, c.loop-i-test.true) }

pub overflow_add-first : goal.overflow_add-first
overflow_add-first c =
    let has = room c.args.first (length c.args.row.now) (sym c.row_fits.ensures ∙ c.if-not-row_fits.false) in
    record { fits = omega (arith, has.last, c.loop-i-test.true) }

pub shape_of-row : goal.shape_of-row
shape_of-row c = writing-long c.loop-i.invariant
