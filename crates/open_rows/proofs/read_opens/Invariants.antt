-- A turn of the loop reads one open more.
use Rattle.base.{proofs.Laws.{Copied}}
use Rattle.layout.{specs.Layout.decode}
use Rattle.open_rows.proofs.read_opens.Given as goal

abbrev pub invariant-loop-i : goal.invariant-loop-i
invariant-loop-i l = Copied (decode l.b).opens.rows l.rows l.i
