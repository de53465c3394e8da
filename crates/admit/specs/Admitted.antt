-- The access to a target, if one was found.
use Rattle.base.specs.Base.{Namespace, Checked, ◌>>=◌, Request}
use Rattle.store.specs.{Target.Target, Prepare.{Pending, admit}}

abbrev pub admitted : Namespace → Request → Checked Target → Checked Pending
admitted ns r target = target >>= admit ns r
