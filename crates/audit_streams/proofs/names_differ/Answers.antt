use Rattle.base.{specs.Base.{stream_used, zero_bare, bare, bare_at, bare_used}, proofs.Laws.{refl, sym, ◌∙◌, ap, arith, not_both, pairs_kept_past, pairs_kept_fails, pairs_kept_end}}
use Rattle.consistency.specs.Good.{stream_names_differ}
use Rattle.audit_streams.proofs.{Streams.{streams, streams_long, stream_read}}
use Rattle.audit_streams.proofs.names_differ.Goals as goal
use Rattle.audit_streams.proofs.names_differ.Goals.{else-stream_used-via-then-stream_used+else-not-differs_from, else-stream_used-via-else-stream_used}

pub returns-then-not-differs_from : goal.returns-then-not-differs_from
unfolding bare_at bare bare_used stream_used
returns-then-not-differs_from c =
    let s = c in
    let l = s in
    let b = l.args.b.now in
    let long = streams_long b in
    let here = stream_read b (record { 0 = l.loop-i.i }) s.read_stream-s.ensures in
    sym
    (l.loop-i.invariant
    ∙ pairs_kept_fails (streams b) l.loop-i.i zero_bare (omega arith) bare_used stream_names_differ
    (ap bare_used (sym here) ∙ sym c.stream_used.ensures ∙ c.if-stream_used.true)
    (rw (← here) (sym c.differs_from.ensures ∙ c.if-not-differs_from.true)))

pub loop-i-preserved : goal.loop-i-preserved
unfolding bare_at bare bare_used stream_used
loop-i-preserved c =
    let b = c.args.b.now in
    let long = streams_long b in
    let here = stream_read b (record { 0 = c.loop-i.i }) c.read_stream-s.ensures in
    c.loop-i.invariant
    ∙ pairs_kept_past (streams b) c.loop-i.i zero_bare (omega arith) bare_used stream_names_differ
    (λ u. elim c.else-stream_used.branch [
      | else-stream_used-via-then-stream_used+else-not-differs_from w ↦ rw (← here) (sym w.differs_from.ensures ∙ w.if-not-differs_from.false)
      | else-stream_used-via-else-stream_used w ↦ absurd (not_both (c.stream_used.ensures ∙ ap bare_used here ∙ u) w.if-stream_used.false)
    ])

pub returns : goal.returns
returns c =
    let l = c in
    let b = l.args.b.now in
    let long = streams_long b in
    sym (l.loop-i.invariant ∙ pairs_kept_end (streams b) l.loop-i.i (omega arith) bare_used stream_names_differ)

pub loop-i-init : goal.loop-i-init
loop-i-init c = refl
