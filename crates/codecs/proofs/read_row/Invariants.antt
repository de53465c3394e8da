-- A turn of the loop reads one number more.
use Rattle.codecs.proofs.Rows.{Reading}
use Rattle.codecs.proofs.read_row.Given as goal

abbrev pub invariant-loop-i : goal.invariant-loop-i
invariant-loop-i g l = Reading g.N.Number.form l.b l.at l.initial.to l.to l.i
