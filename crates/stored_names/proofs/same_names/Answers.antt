use Rattle.base.{specs.Base.{ℕ, ◌≡◌, eqb, length, get_or}, proofs.Laws.{sym, ap, ◌∙◌, arith, eq-eqb, get_or_default}}
use Rattle.stored_names.proofs.{NameUnits.{units_ended, units-differ, units_same_next}}
use Rattle.stored_names.proofs.same_names.Goals as goal

pub returns-then-unit-unit_at : goal.returns-then-unit-unit_at
returns-then-unit-unit_at c =
    let s = c.args in
    sym
    (c.loop-i.invariant
    ∙ units-differ s.a.now s.b.now c.loop-i.i (λ e. c.if-unit-unit_at.true (e ∙ sym c.unit_at.ensures)))

pub returns-then-unit-eq0 : goal.returns-then-unit-eq0
returns-then-unit-eq0 c =
    let s = c.args in
    sym (c.loop-i.invariant ∙ units_ended s.a.now s.b.now c.loop-i.i c.if-unit-eq0.true ∙ eq-eqb _ 0 (sym (c.if-unit-unit_at.false ∙ c.unit_at.ensures) ∙ c.if-unit-eq0.true))

pub loop-i-preserved : goal.loop-i-preserved
loop-i-preserved c =
    let s = c.args in
    c.loop-i.invariant ∙ units_same_next s.a.now s.b.now c.loop-i.i c.if-unit-eq0.false (c.if-unit-unit_at.false ∙ c.unit_at.ensures)

pub returns : goal.returns
returns c =
    let s = c.args in
    let past : length s.a.now ≡ c.loop-i.i = omega arith in
    ap (λ (u : ℕ). eqb u 0) (c.unit_at-2.ensures ∙ ap (λ (k : ℕ). get_or s.b.now k 0) past)
    ∙ sym (c.loop-i.invariant ∙ units_ended s.a.now s.b.now c.loop-i.i (get_or_default s.a.now 0 c.loop-i-test.false))
