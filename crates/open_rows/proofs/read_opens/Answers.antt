use Rattle.base.{specs.Base.{zero_open}, proofs.Laws.{arith, copied_none, copied_next, copied_all}}
use Rattle.layout.{proofs.Lengths.opens_count}
use Rattle.tables.specs.Tables.{row_at}
use Rattle.open_rows.proofs.read_opens.Goals as goal

pub loop-i-init : goal.loop-i-init
loop-i-init c = let n = opens_count c.args.b.now in copied_none (omega arith)

pub loop-i-preserved : goal.loop-i-preserved
unfolding row_at
loop-i-preserved c =
    let n = opens_count c.args.b.now in
    copied_next zero_open _ c.loop-i.invariant (omega arith) c.read_open.ensures

pub returns : goal.returns
returns c =
    let n = opens_count c.args.b.now in
    copied_all c.loop-i.invariant (omega arith)
