-- By the stream's slot.
use Rattle.std.proofs.lemmas.Result.{err_from_is_err_and}
use Rattle.base.{specs.Base.{as_checked, ◌>>=◌}}
use Rattle.open_steps.specs.Decisions.{placed_stream, as_placed}
use Rattle.paths.specs.Positions.{as_leaf}
use Rattle.store.specs.Complete.{place, complete}
use Rattle.complete.specs.Placing.{finished}
use Rattle.complete.proofs.complete_stream.Goals as goal

pub returns-in_err-stream : goal.returns-in_err-stream
unfolding as_checked complete place ◌>>=◌
returns-in_err-stream c path =
    let q = err_from_is_err_and c.from_residual.result c.from_residual.ensures.1 in
    record { is = rw (q.1, q.2, ← c.in_err-stream.ensures); row = rw q.1 tt }

pub returns : goal.returns
unfolding as_checked as_placed placed_stream as_leaf complete place finished ◌>>=◌
returns c path = rw (← c.in_ok-stream.ensures) (c.finish.ensures path)
