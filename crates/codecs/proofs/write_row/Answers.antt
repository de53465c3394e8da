use Rattle.codecs.proofs.Rows.{writing_begins, writing_turn, writing_ends}
use Rattle.codecs.proofs.write_row.Goals as goal

pub loop-i-init : goal.loop-i-init
loop-i-init g c = writing_begins g.N.Number.form _ _ _

pub loop-i-preserved : goal.loop-i-preserved
loop-i-preserved g c =
    writing_turn g.N.Number.form g.met.N.Number.long c.loop-i-test.true c.index-from-i.is c.loop-i.invariant
    (rw (g.met.N.Number.sized, ← c.SIZE.ensures) c.write.ensures)

pub returns : goal.returns
returns g c = writing_ends g.N.Number.form c.loop-i-test.false c.loop-i.invariant
