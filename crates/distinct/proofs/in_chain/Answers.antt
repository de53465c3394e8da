use Rattle.base.{specs.Base.{◌-◌, ◌≡◌, get_or}, proofs.Laws.{sym, ◌∙◌, ap, arith}}
use Rattle.distinct.proofs.{Chains.{Step, found_here, step, pointer_back, pointer_is}}
use Rattle.distinct.specs.Buckets.{found}
use Rattle.distinct.proofs.in_chain.Goals as goal

pub returns-then-key_at-key : goal.returns-then-key_at-key
returns-then-key_at-key c chain =
    let l = c in
    let a = l.args in
    sym
    ((l.loop-at.invariant chain).1
    ∙ found_here a.keys.now a.key (l.loop-at.at - 1) (omega arith) (sym c.key_at.ensures ∙ c.if-key_at-key.true))

pub loop-at-smaller : goal.loop-at-smaller
loop-at-smaller c =
    let l = c in
    let a = l.args in
    omega (arith, c.pointer_at-at.ensures, pointer_back a.next.now (l.loop-at.at - 1))

pub loop-at-preserved : goal.loop-at-preserved
loop-at-preserved c chain =
    let k = c in
    let l = k in
    let a = l.args in
    let m = l.loop-at.at - 1 in
    let i = l.loop-at.invariant chain in
    let s : Step a.keys.now a.next.now l.loop-at.at m a.key =
    step m (omega arith) i.0 (λ e. c.if-key_at-key.false (k.key_at.ensures ∙ e)) in
    let p : c.pointer_at-at.result ≡ get_or a.next.now m 0 =
    c.pointer_at-at.ensures ∙ pointer_is a.next.now m (omega (arith, s.falls)) in
    rw p (s.rest, i.1 ∙ s.same)

pub returns : goal.returns
unfolding found
returns c chain =
    let l = c in
    let a = l.args in
    sym ((l.loop-at.invariant chain).1 ∙ ap (found a.keys.now a.key) c.loop-at-test.false)
