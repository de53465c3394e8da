-- What the steps answer, as the definitions do.
use Rattle.base.specs.Base.{Namespace, Checked, ◌>>=◌, Request}
use Rattle.lookup.specs.Lookup.{Place}
use Rattle.paths.specs.Paths.{Leaf}
use Rattle.store.specs.Target.{Target, target_at}

-- what is where a path leads, or the refusal of step 6
abbrev pub target_there : Namespace → Request → Leaf → Checked Place → Checked Target
target_there ns r leaf place = place >>= target_at ns r leaf
