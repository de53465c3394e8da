-- A turn of the loop writes one digit more, before the others.
use Rattle.script_lines.proofs.{Printing.{Written}}
use Rattle.script_lines.proofs.put_digits.Given as goal

abbrev pub invariant-loop-i : goal.invariant-loop-i
invariant-loop-i l = Written l.initial.out l.at l.base l.width l.number l.out l.left l.i
