use Rattle.base.{specs.Base.{open_used, zero_open}, proofs.Laws.{refl, sym, ◌∙◌, any_here, any_next, any_none, eq-eqb, ne_eqb, arith}}
use Rattle.layout.{specs.Layout.decode, proofs.Lengths.opens_count}
use Rattle.tables.specs.Tables.{row_at}
use Rattle.image_read.proofs.has_opens.Goals as goal

pub returns-then-read_handle-ne0 : goal.returns-then-read_handle-ne0
unfolding row_at open_used
returns-then-read_handle-ne0 c =
    let b = c.args.b.now in
    let n = opens_count b in
    sym (c.loop-i.invariant ∙ any_here open_used (decode b).opens.rows c.loop-i.i zero_open (omega arith) (rw (← c.read_handle.ensures, ne_eqb _ _ c.if-read_handle-ne0.true)))

pub loop-i-preserved : goal.loop-i-preserved
unfolding row_at open_used
loop-i-preserved c =
    let b = c.args.b.now in
    let n = opens_count b in
    c.loop-i.invariant ∙ any_next open_used (decode b).opens.rows c.loop-i.i zero_open (omega arith) (rw (← c.read_handle.ensures, eq-eqb _ _ c.if-read_handle-ne0.false))

pub returns : goal.returns
returns c =
    let b = c.args.b.now in
    let n = opens_count b in
    sym (c.loop-i.invariant ∙ any_none open_used (decode b).opens.rows c.loop-i.i (omega arith))

pub loop-i-init : goal.loop-i-init
loop-i-init c = refl
