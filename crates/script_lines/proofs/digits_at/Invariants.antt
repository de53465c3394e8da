-- The invariant: what is read is what is read from the place reached, after
-- digits of the value so far.
use Rattle.base.{specs.Base.{◌≡◌, drop}}
use Rattle.script_lines.specs.{Lines.{digits_from}}
use Rattle.script_lines.proofs.digits_at.Given as goal

abbrev pub invariant-loop-at : goal.invariant-loop-at
invariant-loop-at l = digits_from l.most 0 (drop l.from l.line) ≡ digits_from l.most l.value (drop l.at l.line)
