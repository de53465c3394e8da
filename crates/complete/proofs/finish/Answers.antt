-- By the open's place.
use Rattle.std.proofs.lemmas.Result.{err_from_is_err_and}
use Rattle.base.{specs.Base.{as_checked, ◌>>=◌}}
use Rattle.open_steps.specs.Decisions.{as_accepted}
use Rattle.complete.specs.Placing.{finished}
use Rattle.complete.proofs.finish.Goals as goal

pub returns-in_err-row : goal.returns-in_err-row
unfolding as_checked finished ◌>>=◌
returns-in_err-row c path =
    let q = err_from_is_err_and c.from_residual.result c.from_residual.ensures.1 in
    record { is = rw (q.1, q.2, ← c.in_err-row.ensures.is); row = rw q.1 tt }

pub returns : goal.returns
unfolding as_checked as_accepted finished ◌>>=◌
returns c path = record { is = rw (← c.in_ok-row.ensures.is); row = c.in_ok-row.ensures.row }
