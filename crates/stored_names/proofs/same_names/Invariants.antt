-- The loop's invariant: the answer is that for what is left of both names.
use Rattle.base.{specs.Base.{◌≡◌, drop, same}}
use Rattle.stored_names.specs.StoredNames.{units}
use Rattle.stored_names.proofs.same_names.Given as goal

abbrev pub invariant-loop-i : goal.invariant-loop-i
invariant-loop-i l = same (units l.a) (units l.b) ≡ same (units (drop l.i l.a)) (units (drop l.i l.b))
