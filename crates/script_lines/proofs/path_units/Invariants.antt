-- A turn of the loop copies one byte more.
use Rattle.script_lines.proofs.Units.{PathCopied}
use Rattle.script_lines.proofs.path_units.Given as goal

abbrev pub invariant-loop-i : goal.invariant-loop-i
invariant-loop-i l = PathCopied l.line l.from l.units l.i
