-- No slot that was looked at is free.
use Rattle.base.specs.Base.{ℕ, ◌≤◌, ◌<◌, false}
use Rattle.free_slots.proofs.lowest.Given as goal

abbrev pub invariant-loop-i : goal.invariant-loop-i
invariant-loop-i g l = (k : ℕ) → l.from ≤ k → k < l.i → goal.F-post g l.is_free k false
