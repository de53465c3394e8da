use Rattle.base.{specs.Base.{ℕ, ◌≡◌, eqb, length, get_or}, proofs.Laws.{sym, ap, ◌∙◌, arith}}
use Rattle.units.specs.Units.{folded}
use Rattle.stored_names.proofs.{NameUnits.{name_ends, name_stops, name_next, name_end}}
use Rattle.stored_names.proofs.name_equals.Goals as goal
use Rattle.stored_names.proofs.name_equals.Goals.{then-unit-eq0-via-then-unit-eq0, then-unit-eq0-via-else-unit-eq0+then-folded_unit}

pub returns-then-unit-eq0 : goal.returns-then-unit-eq0
returns-then-unit-eq0 c =
    let s = c.args in
    sym
    (c.loop-i.invariant
    ∙ elim c.then-unit-eq0.branch [
      | then-unit-eq0-via-then-unit-eq0 w ↦
          name_ends s.fold s.name.now s.part.now c.loop-i.i c.loop-i-test.true (sym c.unit_at-unit.ensures ∙ w.if-unit-eq0.true)
      | then-unit-eq0-via-else-unit-eq0+then-folded_unit w ↦
          name_stops s.fold s.name.now s.part.now c.loop-i.i c.loop-i-test.true (λ e. w.if-unit-eq0.false (c.unit_at-unit.ensures ∙ e))
          (λ e. w.if-folded_unit.true (w.folded_unit.ensures ∙ ap (folded s.fold) c.unit_at-unit.ensures ∙ e ∙ sym w.folded_unit-else-unit-eq0.ensures))
    ])

pub loop-i-preserved : goal.loop-i-preserved
loop-i-preserved c =
    let s = c.args in
    c.loop-i.invariant
    ∙ name_next s.fold s.name.now s.part.now c.loop-i.i c.loop-i-test.true (λ e. c.if-unit-eq0.false (c.unit_at-unit.ensures ∙ e))
    (sym (c.folded_unit.ensures ∙ ap (folded s.fold) c.unit_at-unit.ensures) ∙ c.if-folded_unit.false ∙ c.folded_unit-else-unit-eq0.ensures)

pub returns : goal.returns
returns c =
    let s = c.args in
    let past : length s.part.now ≡ c.loop-i.i = omega arith in
    ap (λ (u : ℕ). eqb u 0) (c.unit_at.ensures ∙ ap (λ (k : ℕ). get_or s.name.now k 0) past)
    ∙ sym (c.loop-i.invariant ∙ name_end s.fold s.name.now s.part.now c.loop-i.i c.loop-i-test.false)
