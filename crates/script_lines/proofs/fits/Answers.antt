-- The test is the definition's, put so that nothing wraps.
use Rattle.base.{specs.Base.{ℕ, ◌+◌, ◌-◌, ◌*◌, ◌≤◌, ◌≡◌, leb}, proofs.Laws.{sym, ◌∙◌, arith, by_cases, le-leb, lt-leb}}
use borrow.Author.Tests.{leb-true, leb-false}
use Prim.Native.Nat.{◌/◌}
use Rattle.script_lines.proofs.fits.Goals as goal

same_test : (most value digit : ℕ) → digit ≤ most → leb value ((most - digit) / 10) ≡ leb (value * 10 + digit) most
same_test most value digit h =
    by_cases (leb value ((most - digit) / 10))
    (λ e. let k = leb-true value ((most - digit) / 10) e in e ∙ sym (le-leb (value * 10 + digit) most (omega arith)))
    (λ e. let k = leb-false value ((most - digit) / 10) e in e ∙ sym (lt-leb (value * 10 + digit) most (omega arith)))

pub returns-else-digit-most : goal.returns-else-digit-most
returns-else-digit-most c =
    let a = c.args in
    lt-leb a.digit a.most c.if-digit-most.false ∙ sym (lt-leb (a.value * 10 + a.digit) a.most (omega arith))

pub returns-then-digit-most : goal.returns-then-digit-most
returns-then-digit-most c = same_test _ _ _ c.if-digit-most.true
