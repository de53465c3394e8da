use Rattle.base.{specs.Base.{open_used, inl, inr}, proofs.Laws.{arith, eq-eqb, ne_eqb}}
use Rattle.layout.proofs.Lengths.{opens_count}
use Rattle.tables.specs.Tables.{row_at}
use borrow.Author.Count.{below_more}
use Rattle.open_table.proofs.has_open.Goals as goal
use Rattle.open_table.proofs.has_open.Goals.{else-asked-via-then-asked+else-read_handle-ne0, else-asked-via-else-asked}

pub returns-then-read_handle-ne0 : goal.returns-then-read_handle-ne0
unfolding row_at open_used
returns-then-read_handle-ne0 g c =
    let n = opens_count c.args.b.now in
    record { is = (c.loop-i.i, omega arith, c.if-asked.ensures, rw (← c.read_handle.ensures, ne_eqb _ _ c.if-read_handle-ne0.true)) }

pub loop-i-preserved : goal.loop-i-preserved
unfolding row_at open_used
loop-i-preserved g c =
    below_more _ _ c.loop-i.invariant
    (elim c.else-asked.branch [
      | else-asked-via-then-asked+else-read_handle-ne0 w ↦ inr (rw (← w.read_handle.ensures, eq-eqb _ _ w.if-read_handle-ne0.false))
      | else-asked-via-else-asked w ↦ inl w.if-asked.ensures
    ])

pub returns : goal.returns
returns g c =
    let n = opens_count c.args.b.now in
    record { is = λ k below. c.loop-i.invariant k (omega arith) }
