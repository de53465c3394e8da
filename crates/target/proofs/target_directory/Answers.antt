use Rattle.std.proofs.lemmas.Result.{err_from_is_err_and}
use Rattle.base.{specs.Base.{◌≡◌, ◌>>=◌, ◌>>◌, refuse_if, some_or, as_option, as_checked, FileCorruptError}}
use Rattle.open_steps.specs.Targets.{as_resolved, as_target}
use Rattle.store.specs.Target.{target_directory}
use Rattle.target.proofs.target_directory.Goals as goal

pub returns-in_err-stream : goal.returns-in_err-stream
unfolding as_checked as_option as_resolved target_directory refuse_if some_or ◌>>◌ ◌>>=◌
returns-in_err-stream c path =
    let q = err_from_is_err_and c.from_residual.result c.from_residual.ensures.1 in
    let none = c.in_err-stream.ensures.ok_part in
    let value = rw none at c.in_err-stream.ensures.value in
    let status : c.in_err-stream.field-0.0 ≡ FileCorruptError = cc value in
    rw (q.1, q.2, status, ← c.only_opens.ensures, c.if-not-only_opens.false, ← c.find_stream.ensures, none)

pub returns : goal.returns
unfolding as_checked as_option as_target as_resolved target_directory refuse_if some_or ◌>>◌ ◌>>=◌
returns c path =
    rw (← c.only_opens.ensures, c.if-not-only_opens.false, ← c.find_stream.ensures, c.in_ok-stream.ensures.ok_part)
