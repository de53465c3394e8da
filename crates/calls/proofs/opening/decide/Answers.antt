-- The steps one after the other.
use Rattle.store.specs.{Prepare.prepare, Complete.decide}
use Rattle.calls.proofs.opening.decide.Goals as goal

pub returns : goal.returns
unfolding decide prepare
returns c = rw (c.deletes_on_close.ensures, c.admit-pending.ensures, c.find_target-target.ensures) at c.complete.ensures
