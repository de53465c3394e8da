-- The loop's invariant: the answer is that for what is left of both.
use Rattle.base.{specs.Base.{◌≡◌, drop}}
use Rattle.units.specs.Units.{equal_units}
use Rattle.stored_names.specs.StoredNames.{units}
use Rattle.stored_names.proofs.name_equals.Given as goal

abbrev pub invariant-loop-i : goal.invariant-loop-i
invariant-loop-i l = equal_units l.fold (units l.name) l.part ≡ equal_units l.fold (units (drop l.i l.name)) (drop l.i l.part)
