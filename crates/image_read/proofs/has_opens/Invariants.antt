-- The invariant: what is asked is what the rest of the table says.
use Rattle.base.{specs.Base.{◌≡◌, drop, any, open_used}}
use Rattle.layout.{specs.Layout.decode}
use Rattle.image_read.proofs.has_opens.Given as goal

abbrev pub invariant-loop-i : goal.invariant-loop-i
invariant-loop-i l = any open_used (decode l.b).opens.rows ≡ any open_used (drop l.i (decode l.b).opens.rows)
