-- What is granted, then the volume's mark.
use Rattle.std.proofs.Common.{rules}
use Rattle.base.specs.Base.{◌>>=◌, ◌>>◌, refuse_if, as_checked, namespace}
use Rattle.store.specs.Prepare.{admit_stream}
use Rattle.open_steps.specs.Pendings.{as_pending}
use Rattle.admit.proofs.admit_stream.Goals as goal

pub returns-in_err-terms : goal.returns-in_err-terms
unfolding as_checked admit_stream ◌>>=◌
returns-in_err-terms c = search rules

pub returns-then-read_mark : goal.returns-then-read_mark
unfolding as_checked admit_stream refuse_if ◌>>◌ ◌>>=◌ namespace
returns-then-read_mark c = search rules

pub returns : goal.returns
unfolding as_checked as_pending admit_stream refuse_if ◌>>◌ ◌>>=◌ namespace
returns c = search rules
