-- Each turn passes a line.
use Rattle.base.specs.Base.{◌-◌, length}
use Rattle.step_vectors.proofs.run.Given as goal

abbrev pub decreases-loop-at : goal.decreases-loop-at
decreases-loop-at g l = length l.text - l.at
