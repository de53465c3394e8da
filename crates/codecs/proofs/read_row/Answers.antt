use Rattle.codecs.proofs.Rows.{reading_begins, reading_turn, reading_ends}
use Rattle.codecs.proofs.read_row.Goals as goal

pub loop-i-init : goal.loop-i-init
loop-i-init g c = reading_begins g.N.Number.form _ _ _

pub loop-i-preserved : goal.loop-i-preserved
loop-i-preserved g c =
    let a = c.args in
    let l = c.loop-i in
    reading_turn g.N.Number.form a.b.now a.at a.to.now l.to l.i _ c.loop-i-test.true (rw (c.SIZE.ensures, ← g.met.N.Number.sized) at c.read.ensures)
    l.invariant

pub returns : goal.returns
returns g c = reading_ends g.N.Number.form c.args.b.now c.args.at c.args.to.now c.loop-i.to c.loop-i.i c.loop-i-test.false c.loop-i.invariant
