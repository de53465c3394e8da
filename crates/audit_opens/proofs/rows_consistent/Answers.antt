use Rattle.base.{specs.Base.{namespace, Handle}, proofs.Laws.{sym, ◌∙◌, ap, arith}}
use Rattle.layout.{specs.Layout.decode, proofs.Lengths.opens_count}
use Rattle.tables.specs.Tables.{row_at}
use Rattle.audit_opens.proofs.{OpensScan.{row_found, pass_begins, pass_fails, pass_goes, rows_none, rows_fail, pass_ends}}
use Rattle.audit_opens.proofs.rows_consistent.Goals as goal

pub returns-then-next-eq0 : goal.returns-then-next-eq0
unfolding namespace
returns-then-next-eq0 c =
    let b = c.args.b.now in
    let v = (decode b).volume in
    sym (rows_none v.streams v.next_handle.0 (decode b).opens.rows (cc))

pub loop-i-init : goal.loop-i-init
loop-i-init c =
    let b = c.args.b.now in
    let v = (decode b).volume in
    (omega arith, pass_begins v.streams v.next_handle.0 (decode b).opens.rows (opens_count b))

pub returns-then-not-row_consistent : goal.returns-then-not-row_consistent
unfolding namespace row_at
returns-then-not-row_consistent c =
    let b = c.args.b.now in
    let v = (decode b).volume in
    let given = ap (λ (h : Handle). h.0) c.read_next-next.ensures in
    sym
    (rows_fail v.streams v.next_handle.0 (decode b).opens.rows (opens_count b) (omega (arith, c.if-next-eq0.false))
    (pass_fails v.streams _ (decode b).opens.rows (opens_count b) c.loop-i.i (omega arith) c.loop-i.invariant.1
    c.read_open-o.ensures (row_found (decode b).volume.streams (decode b).volume.next_handle.0 c.read_open-o.result c.read_stream_type-kind.ensures c.read_stream_file-file.ensures
    (ap (λ (h : Handle). h.0) c.read_next-next.ensures) c.row_consistent.ensures c.if-not-row_consistent.true)))

pub loop-i-preserved : goal.loop-i-preserved
unfolding row_at
loop-i-preserved c =
    let b = c.args.b.now in (
      omega (arith, c.loop-i.invariant.0),
      pass_goes (decode b).volume.streams _ (decode b).opens.rows (opens_count b) c.loop-i.i (omega arith) c.loop-i.invariant.1
          c.read_open-o.ensures (row_found (decode b).volume.streams (decode b).volume.next_handle.0 c.read_open-o.result c.read_stream_type-kind.ensures c.read_stream_file-file.ensures
          (ap (λ (h : Handle). h.0) c.read_next-next.ensures) c.row_consistent.ensures c.if-not-row_consistent.false),
    )

pub slice_bounds-distinct-end : goal.slice_bounds-distinct-end
slice_bounds-distinct-end c =
    sym (c.loop-i.invariant.1.size ∙ opens_count c.args.b.now)

pub returns : goal.returns
unfolding namespace
returns c =
    let b = c.args.b.now in
    let given = ap (λ (h : Handle). h.0) c.read_next-next.ensures in
    c.distinct.ensures
    ∙ sym (pass_ends (decode b).volume.streams _ (decode b).opens.rows (opens_count b) (omega (arith, c.if-next-eq0.false))
    (omega arith) c.loop-i.invariant.1)
