use Rattle.base.{specs.Base.{◌-◌, ◌≡◌}, proofs.Laws.{refl, sym, ◌∙◌, ap, arith}}
use Rattle.distinct.proofs.{Chains.{found_here, found_past}}
use Rattle.distinct.specs.Buckets.{found}
use Rattle.distinct.proofs.stands_before.Goals as goal

pub returns-then-key_at-key : goal.returns-then-key_at-key
returns-then-key_at-key c =
    let l = c in
    let a = l.args in
    sym
    (l.loop-i.invariant
    ∙ found_here a.keys.now a.key (l.loop-i.i - 1) (omega arith) (sym c.key_at.ensures ∙ c.if-key_at-key.true))

pub loop-i-preserved : goal.loop-i-preserved
loop-i-preserved c =
    let l = c in
    let a = l.args in
    l.loop-i.invariant
    ∙ found_past a.keys.now a.key (l.loop-i.i - 1) (omega arith) (λ e. c.if-key_at-key.false (c.key_at.ensures ∙ e))

pub returns : goal.returns
unfolding found
returns c =
    let l = c in
    let a = l.args in
    let e : l.loop-i.i ≡ 0 = omega arith in
    sym (l.loop-i.invariant ∙ ap (found a.keys.now a.key) e)

pub loop-i-init : goal.loop-i-init
loop-i-init c = refl
