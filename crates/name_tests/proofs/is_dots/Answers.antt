-- By the first three places.
use Rattle.base.proofs.Laws.{sym, ◌∙◌, arith}
use Rattle.name_tests.proofs.{Valid.{dots_not, dots_one, dots_two, dots_other}}
use Rattle.name_tests.proofs.is_dots.Goals as goal

pub returns-then-unit_at-ne-DOT : goal.returns-then-unit_at-ne-DOT
returns-then-unit_at-ne-DOT c =
    sym (dots_not c.args.name.now (λ e. c.if-unit_at-ne-DOT.true (c.unit_at.ensures ∙ e)))

pub returns-in-0 : goal.returns-in-0
returns-in-0 c =
    sym (dots_one c.args.name.now (sym c.unit_at.ensures ∙ c.if-unit_at-ne-DOT.false) (sym c.unit_at-2.ensures ∙ c.in-0.is))

pub returns-in-46 : goal.returns-in-46
returns-in-46 c =
    rw c.unit_at-in-46.ensures
    (sym (dots_two c.args.name.now (sym c.unit_at.ensures ∙ c.if-unit_at-ne-DOT.false) (sym c.unit_at-2.ensures ∙ c.in-46.is)))

pub returns-in_default : goal.returns-in_default
returns-in_default c =
    sym
    (dots_other c.args.name.now (sym c.unit_at.ensures ∙ c.if-unit_at-ne-DOT.false)
    (λ e. let none : ⊥ = omega (arith, c.unit_at-2.ensures, e) in none)
    (λ e. let none : ⊥ = omega (arith, c.unit_at-2.ensures, e) in none))
