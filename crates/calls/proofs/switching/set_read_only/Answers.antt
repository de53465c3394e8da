-- Unsound bytes are refused, and then the mark is written.
use Rattle.base.{proofs.Laws.{sym, ◌∙◌, arith}}
use Rattle.call_contracts.proofs.{Performing.{performs_written, performs_unsound, sound_stands}, Answering.{setting, switch_sets}}
use Rattle.store.specs.Store.{store_set_read_only, volume_marked}
use Rattle.calls.proofs.Unsound.{other_length}
use Rattle.calls.proofs.switching.set_read_only.Goals as goal

pub returns-in_default : goal.returns-in_default
unfolding store_set_read_only
returns-in_default c =
    let a = c.args in
    rw c.refused.ensures
    (performs_unsound (setting a.read_only) a.b.now (λ i. omega (arith, c.type_inv.b i)) (other_length a.b.now c.in_default.ensures.cases))

pub returns-then-not-audit : goal.returns-then-not-audit
unfolding store_set_read_only
returns-then-not-audit c =
    let a = c.args in
    let same = c.in-Some.ensures.cases.same in
    rw (c.refused-then-not-audit.ensures, same)
    (performs_unsound (setting a.read_only) a.b.now (λ i. omega (arith, c.slice_known-1.given i))
    (rw same at (sym c.audit.ensures ∙ c.if-not-audit.true)))

pub returns : goal.returns
unfolding volume_marked
returns c =
    let same = c.in-Some.ensures.cases.same in
    let s = rw same at (sym c.audit.ensures ∙ c.if-not-audit.false) in
    let a = c.args in
    let bs = a.b.now in
    let e = switch_sets bs s a.read_only in
    let w = rw same at c.write_mark.ensures in
    rw c.done.ensures
    (performs_written _ bs (λ i. omega (arith, c.slice_known-1.given i)) (sound_stands (setting a.read_only) bs s) _ _
    (λ i. omega (arith, c.type_inv.b i)) (rw e w) (rw e))
