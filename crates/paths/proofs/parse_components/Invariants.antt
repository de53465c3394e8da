-- The loop's invariant is the walk's `At` the present component; the measure
-- is what is left of the path after it.
use Rattle.base.{specs.Base.{◌-◌, length}}
use Rattle.paths.proofs.{Walk.{At}}
use Rattle.paths.proofs.parse_components.Given as goal

abbrev pub invariant-loop-next : goal.invariant-loop-next
invariant-loop-next l = At l.wants_directory l.path l.part

abbrev pub decreases-loop-next : goal.decreases-loop-next
decreases-loop-next l = length l.path - l.part.end
