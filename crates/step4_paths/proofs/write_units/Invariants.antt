-- The loop's invariant: the first i bytes are written.
use Rattle.step4_paths.proofs.Writing.{Writing}
use Rattle.step4_paths.proofs.write_units.Given as goal

abbrev pub invariant-loop-i : goal.invariant-loop-i
invariant-loop-i l = Writing l.bytes l.initial.units l.units l.i
