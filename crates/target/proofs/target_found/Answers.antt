-- Step 8's refusal, or the stream by the file's type.
use Rattle.std.proofs.lemmas.Result.{err_from_is_err_and}
use Rattle.base.{specs.Base.{◌>>◌, as_checked, namespace}}
use Rattle.open_steps.specs.Targets.{as_resolved}
use Rattle.paths.specs.Positions.{as_leaf}
use Rattle.store.specs.Target.{target_found}
use Rattle.target.proofs.target_found.Goals as goal

pub returns-in_err-check_type : goal.returns-in_err-check_type
unfolding as_checked as_resolved target_found namespace ◌>>◌
returns-in_err-check_type c =
    let q = err_from_is_err_and c.from_residual.result c.from_residual.ensures.1 in
    rw (q.1, q.2, ← c.read_file_type.ensures, ← c.is_directory-is_dir.ensures, ← c.in_err-check_type.ensures _)

pub returns-then-is_dir : goal.returns-then-is_dir
unfolding as_checked as_resolved target_found namespace ◌>>◌
returns-then-is_dir c =
    rw (← c.read_file_type.ensures, ← c.is_directory-is_dir.ensures, ← c.in_ok-check_type.ensures _, c.if-is_dir.true)
    (c.target_directory.ensures _)

pub returns-else-is_dir : goal.returns-else-is_dir
unfolding as_checked as_resolved as_leaf target_found namespace ◌>>◌
returns-else-is_dir c =
    rw (← c.read_file_type.ensures, ← c.is_directory-is_dir.ensures, ← c.in_ok-check_type.ensures _, c.if-is_dir.false)
    c.target_data.ensures
