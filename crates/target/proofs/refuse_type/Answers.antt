use Rattle.base.{specs.Base.{refuse_if, as_checked}, proofs.Laws.{eq-eqb, ne_eqb}}
use Rattle.target.proofs.refuse_type.Goals as goal

pub returns-then-not-wrong : goal.returns-then-not-wrong
unfolding as_checked refuse_if
returns-then-not-wrong c = rw c.if-not-wrong.true

pub returns-then-r-eq-CREATE : goal.returns-then-r-eq-CREATE
unfolding as_checked refuse_if
returns-then-r-eq-CREATE c = rw (c.if-not-wrong.false, eq-eqb _ _ c.if-r-eq-CREATE.true)

pub returns : goal.returns
unfolding as_checked refuse_if
returns c = rw (c.if-not-wrong.false, ne_eqb _ _ c.if-r-eq-CREATE.false)
