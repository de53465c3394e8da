-- A turn of the loop writes one number more.
use Rattle.codecs.proofs.Rows.{Writing}
use Rattle.codecs.proofs.write_row.Given as goal

abbrev pub invariant-loop-i : goal.invariant-loop-i
invariant-loop-i g l = Writing g.N.Number.form l.initial.b l.at l.from l.b l.i
