-- The loop's invariant: the answer so far, and that for the places left.
use Rattle.base.{specs.Base.{◌≡◌, ◌&&◌, drop, all}}
use Rattle.name_tests.specs.NameTests.{zero_or_valid}
use Rattle.name_tests.proofs.zeros_or_valid.Given as goal

abbrev pub invariant-loop-unit : goal.invariant-loop-unit
invariant-loop-unit l = all (zero_or_valid l.kind) l.name ≡ (l.valid && all (zero_or_valid l.kind) (drop l.unit-index l.name))
