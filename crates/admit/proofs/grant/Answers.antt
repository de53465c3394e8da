-- The rule on the file that is read, then whether that file may go.
use Rattle.std.proofs.Common.{rules}
use Rattle.base.specs.Base.{◌>>=◌, ◌>>◌, refuse_if, some_or, as_checked, as_option, namespace}
use Rattle.access.specs.Access.{checked_access}
use Rattle.store.specs.Prepare.{may_go, grant}
use Rattle.admit.proofs.grant.Goals as goal

pub returns-in_err-granted : goal.returns-in_err-granted
unfolding as_checked as_option some_or grant checked_access ◌>>=◌ namespace
returns-in_err-granted c = search rules

pub returns-then-deletes_on_close-stays : goal.returns-then-deletes_on_close-stays
unfolding as_checked as_option some_or grant may_go checked_access ◌>>=◌ ◌>>◌ refuse_if namespace
returns-then-deletes_on_close-stays c = search rules

pub returns : goal.returns
unfolding as_checked as_option some_or grant may_go checked_access ◌>>=◌ ◌>>◌ refuse_if namespace
returns c = search rules
