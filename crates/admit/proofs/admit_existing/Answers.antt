-- What is granted goes on.
use Rattle.std.proofs.Common.{rules}
use Rattle.base.specs.Base.{◌>>=◌, as_checked}
use Rattle.store.specs.Prepare.{admit_existing}
use Rattle.open_steps.specs.Pendings.{as_pending, as_existing}
use Rattle.admit.proofs.admit_existing.Goals as goal

pub returns-in-Err : goal.returns-in-Err
unfolding as_checked as_existing admit_existing ◌>>=◌
returns-in-Err c = search rules

pub returns-in-Ok : goal.returns-in-Ok
unfolding as_checked as_pending as_existing admit_existing ◌>>=◌
returns-in-Ok c = search rules
