use Rattle.base.specs.Base.{as_option}
use Rattle.lookup.specs.Answers.{as_place}
use Rattle.open_steps.specs.Targets.{as_resolved}
use Rattle.store.specs.Target.{target_at}
use Rattle.target.proofs.target_at.Goals as goal

pub returns-in-Root : goal.returns-in-Root
unfolding as_place as_resolved as_option target_at
returns-in-Root c = rw c.in-Root.is c.target_found.ensures

pub returns-in-Found : goal.returns-in-Found
unfolding as_place as_resolved as_option target_at
returns-in-Found c = rw c.in-Found.is c.target_found-in-Found.ensures

pub returns-in-Missing : goal.returns-in-Missing
unfolding as_place target_at
returns-in-Missing c = rw c.in-Missing.is (c.target_new.ensures _)
