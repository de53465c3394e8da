-- A refusal stays, and a target is admitted.
use Rattle.base.specs.Base.{as_checked, ◌>>=◌}
use Rattle.admit.proofs.admit.Goals as goal

pub returns-in-Err : goal.returns-in-Err
unfolding as_checked ◌>>=◌
returns-in-Err c = rw c.in-Err.is

pub returns-in-Ok : goal.returns-in-Ok
unfolding as_checked ◌>>=◌
returns-in-Ok c = rw c.in-Ok.is c.admit_target.ensures
