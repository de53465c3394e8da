use Rattle.base.{specs.Base.{inl, inr}, proofs.Laws.{sym, ◌∙◌, arith, ltb-true, ltb-false}}
use Rattle.layout.{specs.Layout.decode, proofs.Lengths.opens_count}
use Rattle.tables.specs.Tables.{row_at}
use Rattle.audit_opens.proofs.{CountsScan.{counting_begins, counting_counts, counting_skips, counting_ends}}
use Rattle.audit_opens.proofs.counts_found.Goals as goal
use Rattle.audit_opens.proofs.counts_found.Goals.{else-open_used-via-then-open_used+else-n-lt-STREAM_SLOTS, else-open_used-via-else-open_used}

pub loop-i-init : goal.loop-i-init
loop-i-init c = let b = c.args.b.now in counting_begins (decode b).opens.rows (opens_count b)

pub loop-i-preserved-then-n-lt-STREAM_SLOTS : goal.loop-i-preserved-then-n-lt-STREAM_SLOTS
unfolding row_at
loop-i-preserved-then-n-lt-STREAM_SLOTS c =
    let b = c.args.b.now in
    counting_counts (decode b).opens.rows (opens_count b) c.loop-i.i (omega arith) c.loop-i.invariant c.read_open-o.ensures
    (sym c.open_used.ensures ∙ c.if-open_used.true) (omega (arith, ltb-true)) c.with_open.ensures

pub loop-i-preserved : goal.loop-i-preserved
unfolding row_at
loop-i-preserved c =
    let b = c.args.b.now in
    counting_skips (decode b).opens.rows (opens_count b) c.loop-i.i (omega arith) c.loop-i.invariant c.read_open-o.ensures
    (elim c.else-open_used.branch [
      | else-open_used-via-then-open_used+else-n-lt-STREAM_SLOTS w ↦ inr (omega (arith, ltb-false))
      | else-open_used-via-else-open_used w ↦ inl (sym c.open_used.ensures ∙ w.if-open_used.false)
    ])

pub returns : goal.returns
returns c =
    let b = c.args.b.now in
    counting_ends (decode b).opens.rows (opens_count b) (omega arith) c.loop-i.invariant
