-- Unsound bytes and what the steps refuse are refused, and then the open is applied.
use Rattle.base.{specs.Base.{as_checked}, proofs.Laws.{sym, ◌∙◌, arith, and_right}}
use Rattle.audit.specs.Sound.{sound_bytes}
use Rattle.call_contracts.proofs.{Performing.{performs_written, performs_refusal, performs_unsound, sound_stands, sound_long}, Answering.{opening, open_refuses, open_accepts}, Opened.{names_stored, applied_is}}
use Rattle.consistency.proofs.Equivalence.{consistent_iff}
use Rattle.layout.{specs.Layout.{decode, stands_for_tables}, proofs.Tables.decode_fits}
use Rattle.little_endian.specs.LittleEndian.{Bytes}
use Rattle.open_steps.specs.Decisions.{as_accepted}
use Rattle.store.specs.Store.{store_open, opened}
use Rattle.calls.proofs.Unsound.{other_length}
use Rattle.calls.proofs.opening.open.Goals as goal

pub returns-in_default : goal.returns-in_default
unfolding store_open
returns-in_default c =
    let a = c.args in
    rw c.refused.ensures
    (performs_unsound (opening a.r a.path.now) a.b.now (λ i. omega (arith, c.type_inv.b i)) (other_length a.b.now c.in_default.ensures.cases))

pub returns-then-not-audit : goal.returns-then-not-audit
unfolding store_open
returns-then-not-audit c =
    let a = c.args in
    let same = c.in-Some.ensures.cases.same in
    rw (c.refused-then-not-audit.ensures, same)
    (performs_unsound (opening a.r a.path.now) a.b.now (λ i. omega (arith, c.slice_known-1.given i))
    (rw same at (sym c.audit.ensures ∙ c.if-not-audit.true)))

pub returns-in-Err : goal.returns-in-Err
unfolding as_checked
returns-in-Err c =
    let same = c.in-Some.ensures.cases.same in
    let s = rw same at (sym c.audit.ensures ∙ c.if-not-audit.false) in
    let a = c.args in
    let bs = a.b.now in
    let e = rw same at c.in-Err.ensures.is in
    rw (c.refused-in-Err.ensures, same)
    (performs_refusal _ bs (λ i. omega (arith, c.slice_known-1.given i)) (sound_stands (opening a.r a.path.now) bs s) _
    (open_refuses bs s a.r a.path.now _ e))

pub returns-in-Ok : goal.returns-in-Ok
unfolding as_checked as_accepted opened sound_bytes
returns-in-Ok c =
    let same = c.in-Some.ensures.cases.same in
    let s = rw same at (sym c.audit.ensures ∙ c.if-not-audit.false) in
    let a = c.args in
    let bs = a.b.now in
    let t = decode bs in
    let bytes : Bytes bs = λ i. omega (arith, c.slice_known-1.given i) in
    let ok = (consistent_iff t.volume t.opens).0 (and_right (stands_for_tables bs) _ s) in
    let d = rw same at c.in-Ok.ensures.is in
    let row = rw same at c.in-Ok.ensures.row in
    let w = rw same at c.apply_open.ensures in
    let e = open_accepts bs s a.r a.path.now _ d in
    let stored = names_stored t ok a.r a.path.now _ (sym d) in
    let is = applied_is t ok a.r a.path.now _ (sym d) (decode_fits bs bytes (sound_long bs s)).next _ row in
    rw c.opened.ensures
    (performs_written _ bs bytes (sound_stands (opening a.r a.path.now) bs s) _ _
    (λ i. omega (arith, c.type_inv.b i))
    (rw (e, ← is) (w.changed stored)) (rw e))
