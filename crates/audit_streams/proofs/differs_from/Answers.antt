use Rattle.base.{specs.Base.{zero_bare, bare, bare_at}, proofs.Laws.{sym, ◌∙◌, arith, all_fails, all_next, all_end}}
use Rattle.audit_streams.specs.Streams.{free_or_differs}
use Rattle.audit_streams.proofs.{Streams.{streams, streams_long, slots_differ}}
use Rattle.audit_streams.proofs.differs_from.Goals as goal

pub loop-j-init : goal.loop-j-init
loop-j-init c = slots_differ _ _

pub returns-then-not-slot_differs : goal.returns-then-not-slot_differs
unfolding bare_at
returns-then-not-slot_differs c =
    let l = c in
    let a = l.args in
    let long = streams_long a.b.now in
    sym
    (l.loop-j.invariant
    ∙ all_fails (free_or_differs (bare a.s)) (streams a.b.now) l.loop-j.j zero_bare (omega arith)
    (sym c.slot_differs.ensures ∙ c.if-not-slot_differs.true))

pub loop-j-preserved : goal.loop-j-preserved
unfolding bare_at
loop-j-preserved c =
    let l = c in
    let a = l.args in
    let long = streams_long a.b.now in
    l.loop-j.invariant
    ∙ all_next (free_or_differs (bare a.s)) (streams a.b.now) l.loop-j.j zero_bare (omega arith)
    (sym c.slot_differs.ensures ∙ c.if-not-slot_differs.false)

pub returns : goal.returns
returns c =
    let l = c in
    let a = l.args in
    let long = streams_long a.b.now in
    sym (l.loop-j.invariant ∙ all_end (free_or_differs (bare a.s)) (streams a.b.now) l.loop-j.j (omega arith))
