-- Each refusal where the earlier ones do not come, then the new file.
use Rattle.std.proofs.Common.{rules}
use Rattle.base.specs.Base.{◌>>◌, refuse_if, as_checked, namespace}
use Rattle.store.specs.Prepare.{admit_file, file_new}
use Rattle.open_steps.specs.Pendings.{as_pending, as_file}
use Rattle.admit.proofs.admit_file.Goals as goal

pub returns-then-temporary_directory : goal.returns-then-temporary_directory
unfolding as_checked admit_file refuse_if ◌>>◌
returns-then-temporary_directory c = search rules

pub returns-then-cannot_delete : goal.returns-then-cannot_delete
unfolding as_checked admit_file refuse_if ◌>>◌
returns-then-cannot_delete c = search rules

pub returns-then-not-may_add : goal.returns-then-not-may_add
unfolding as_checked admit_file refuse_if ◌>>◌ namespace
returns-then-not-may_add c = search rules

pub returns : goal.returns
unfolding as_checked as_pending as_file admit_file file_new refuse_if ◌>>◌ namespace
returns c = search rules
