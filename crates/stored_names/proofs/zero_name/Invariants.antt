-- The loop's invariant: the answer so far, and that for the places left.
use Rattle.base.{specs.Base.{◌≡◌, ◌&&◌, length, drop, replicate, all, same}}
use Rattle.stored_names.proofs.{StoredUnits.{is_zero}}
use Rattle.stored_names.proofs.zero_name.Given as goal

abbrev pub invariant-loop-unit : goal.invariant-loop-unit
invariant-loop-unit l = same l.name (replicate (length l.name) 0) ≡ (l.zeros && all is_zero (drop l.unit-index l.name))
