-- The invariant: the digits counted and those of what is left are all, with
-- the last counted twice.
use Rattle.base.{specs.Base.{◌-◌, ◌+◌, ◌≡◌}}
use Rattle.script_lines.specs.Print.{width_up_to}
use Rattle.script_lines.proofs.decimal_width.Given as goal

abbrev pub invariant-loop-width : goal.invariant-loop-width
invariant-loop-width l = width_up_to 19 l.number + 1 ≡ l.width + width_up_to (20 - l.width) l.left
