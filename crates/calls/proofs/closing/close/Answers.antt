-- Unsound bytes and an unknown handle are refused, and then the row of the open is closed.
use Rattle.base.{specs.Base.{as_option}, proofs.Laws.{sym, ◌∙◌, arith}}
use Rattle.call_contracts.proofs.{Performing.{performs_written, performs_refusal, performs_unsound, sound_stands}, Answering.{closing, close_refuses, close_accepts}, Closed.{close_none, close_found, struck_is}}
use Rattle.layout.specs.Layout.{decode}
use Rattle.store.specs.Store.{store_close, closed}
use Rattle.calls.proofs.Unsound.{other_length}
use Rattle.calls.proofs.closing.close.Goals as goal

pub returns-in_default : goal.returns-in_default
unfolding store_close
returns-in_default c =
    let a = c.args in
    rw c.refused.ensures
    (performs_unsound (closing a.h) a.b.now (λ i. omega (arith, c.type_inv.b i)) (other_length a.b.now c.in_default.ensures.cases))

pub returns-then-not-audit : goal.returns-then-not-audit
unfolding store_close
returns-then-not-audit c =
    let a = c.args in
    let same = c.in-Some.ensures.cases.same in
    rw (c.refused-then-not-audit.ensures, same)
    (performs_unsound (closing a.h) a.b.now (λ i. omega (arith, c.slice_known-1.given i))
    (rw same at (sym c.audit.ensures ∙ c.if-not-audit.true)))

pub returns-in_default-find_open : goal.returns-in_default-find_open
unfolding as_option
returns-in_default-find_open c =
    let same = c.in-Some.ensures.cases.same in
    let s = rw same at (sym c.audit.ensures ∙ c.if-not-audit.false) in
    let a = c.args in
    let bs = a.b.now in
    let none = close_none (decode bs) a.h (sym (rw same at c.in_default-find_open.ensures)) in
    rw (c.refused-in_default-find_open.ensures, same)
    (performs_refusal _ bs (λ i. omega (arith, c.slice_known-1.given i)) (sound_stands (closing a.h) bs s) _
    (close_refuses bs s a.h _ none))

pub returns : goal.returns
unfolding as_option closed
returns c =
    let same = c.in-Some.ensures.cases.same in
    let s = rw same at (sym c.audit.ensures ∙ c.if-not-audit.false) in
    let a = c.args in
    let bs = a.b.now in
    let found = sym (rw same at c.in-Some-find_open.ensures) in
    let w = rw same at c.close_row.ensures in
    let e = close_accepts bs s a.h _ (close_found (decode bs) a.h _ found) in
    rw c.done.ensures
    (performs_written _ bs (λ i. omega (arith, c.slice_known-1.given i)) (sound_stands (closing a.h) bs s) _ _
    (λ i. omega (arith, c.type_inv.b i))
    (rw (e, struck_is (decode bs) a.h _ found) w) (rw e))
