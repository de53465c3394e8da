use Rattle.base.{specs.Base.{ℕ, ◌≡◌}, proofs.Laws.{refl, sym, ap, ◌∙◌, arith}}
use Rattle.audit_links.specs.Linked.{leads}
use Rattle.audit_links.proofs.{Linked.{leads_here, leads_next, leads_past}}
use Rattle.audit_links.proofs.leads_to_root.Goals as goal

pub returns-then-at-eq0 : goal.returns-then-at-eq0
returns-then-at-eq0 c =
    let up = c.args.up.now in
    sym (c.loop-left.invariant ∙ leads_here up c.loop-left._left c.loop-left.at c.if-at-eq0.true)

pub returns-then-at-up : goal.returns-then-at-up
returns-then-at-up c =
    let up = c.args.up.now in
    sym (c.loop-left.invariant ∙ leads_past up c.loop-left._left c.loop-left.at c.if-at-eq0.false (omega arith))

pub loop-left-preserved : goal.loop-left-preserved
loop-left-preserved c =
    let up = c.args.up.now in
    c.loop-left.invariant ∙ leads_next up c.loop-left._left c.loop-left.at (omega arith) c.if-at-eq0.false (omega arith)

pub returns : goal.returns
unfolding leads
returns c =
    let up = c.args.up.now in
    sym (c.loop-left.invariant ∙ ap (λ (n : ℕ). leads up n c.loop-left.at) (let e : c.loop-left._left ≡ 0 = omega arith in e))

pub loop-left-init : goal.loop-left-init
loop-left-init c = refl

pub overflow_cast-at : goal.overflow_cast-at
overflow_cast-at c = omega (arith, c.type_inv.up c.loop-left.at)
