use Rattle.base.{specs.Base.{◌>>◌, refuse_if, as_checked, namespace}}
use Rattle.open_steps.specs.Targets.{as_target}
use Rattle.store.specs.Target.{target_new}
use Rattle.target.proofs.target_new.Goals as goal

pub returns-then-adds_nothing : goal.returns-then-adds_nothing
unfolding as_checked as_target target_new refuse_if ◌>>◌
returns-then-adds_nothing c path = rw (← c.adds_nothing.ensures, c.if-adds_nothing.true)

pub returns-then-read_mark : goal.returns-then-read_mark
unfolding as_checked as_target target_new refuse_if ◌>>◌ namespace
returns-then-read_mark c path =
    rw (← c.adds_nothing.ensures, c.if-adds_nothing.false, ← c.read_mark.ensures, c.if-read_mark.true)

pub returns : goal.returns
unfolding as_checked as_target target_new refuse_if ◌>>◌ namespace
returns c path =
    rw (← c.adds_nothing.ensures, c.if-adds_nothing.false, ← c.read_mark.ensures, c.if-read_mark.false)
