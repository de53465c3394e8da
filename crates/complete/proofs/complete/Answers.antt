-- A refusal stays, and what is pending is decided.
use Rattle.std.proofs.lemmas.Result.{err_from_is_err_and}
use Rattle.base.specs.Base.{as_checked, ◌>>=◌}
use Rattle.complete.proofs.complete.Goals as goal

pub returns-in_err-open : goal.returns-in_err-open
unfolding as_checked ◌>>=◌
returns-in_err-open c =
    let q = err_from_is_err_and c.from_residual.result c.from_residual.ensures.1 in
    record { is = rw (q.1, q.2, c.in_err-open.was); row = rw q.1 tt }

pub returns : goal.returns
unfolding as_checked ◌>>=◌
returns c = rw c.in_ok-open.was c.complete_pending.ensures
