-- The sharing check comes first, then step 10's end.
use Rattle.std.proofs.lemmas.Result.{err_from_is_err_and}
use Rattle.base.{specs.Base.{as_checked, ◌>>=◌, ◌>>◌, refuse_if}}
use Rattle.open_steps.specs.{Pendings.as_existing, Decisions.as_placed}
use Rattle.store.specs.{Complete.{place_existing, complete}, Store.store_view}
use Rattle.complete.specs.Placing.{finished}
use Rattle.complete.proofs.complete_existing.Goals as goal

pub returns-then-share_check : goal.returns-then-share_check
unfolding as_checked as_existing complete store_view refuse_if ◌>>◌
returns-then-share_check c path =
    record { is = rw (← c.read_counts.ensures, ← c.share_check.ensures, c.if-share_check.true); row = tt }

pub returns-in_err-terms : goal.returns-in_err-terms
unfolding as_checked as_existing complete store_view refuse_if ◌>>◌ ◌>>=◌
returns-in_err-terms c path =
    let q = err_from_is_err_and c.from_residual.result c.from_residual.ensures.1 in
    record {
      is = rw (q.1, q.2, ← c.read_counts.ensures, ← c.share_check.ensures, c.if-share_check.false, ← c.in_err-terms.ensures);
      row = rw q.1 tt;
    }

pub returns : goal.returns
unfolding as_checked as_placed as_existing place_existing complete store_view finished refuse_if ◌>>◌ ◌>>=◌
returns c path =
    rw (← c.read_counts.ensures, ← c.share_check.ensures, c.if-share_check.false, ← c.in_ok-terms.ensures) (c.finish.ensures path)
