use Rattle.base.{specs.Base.{◌+◌, ◌*◌, ◌≤◌, ◌≡◌, true, get_or}, proofs.Laws.{refl, sym, ◌∙◌, arith}}
use borrow.Author.Tests.{leb-true}
use Rattle.script_lines.proofs.{Reading.{digit_low, digits_end, digits_stop, digits_over, digits_next}}
use Rattle.script_lines.specs.{Lines.{is_digit}, Found.as_number}
use Rattle.script_lines.proofs.digits_at.Goals as goal
use Rattle.script_lines.proofs.digits_at.Goals.{Else-not-fits, Else-not-is_digit}

pub returns-then-not-is_digit : goal.returns-then-not-is_digit
unfolding as_number
returns-then-not-is_digit c =
    let a = c.args in
    sym
    (c.loop-at.invariant
    ∙ digits_stop a.most c.loop-at.value a.line.now c.loop-at.at (omega arith) (sym c.is_digit.ensures ∙ c.if-not-is_digit.true))

-- the byte at the place is a digit
is : (c : Else-not-is_digit) →
    is_digit (get_or c.args.line.now c.loop-at.at 0) ≡ true
is c = sym c.is_digit.ensures ∙ c.if-not-is_digit.false

pub returns-then-not-fits : goal.returns-then-not-fits
unfolding as_number
returns-then-not-fits c =
    let a = c.args in
    let full = rw c.from-digit.ensures at (sym c.fits.ensures ∙ c.if-not-fits.true) in
    sym
    (c.loop-at.invariant
    ∙ digits_over a.most c.loop-at.value a.line.now c.loop-at.at (omega arith) (is (goal.at.returns-then-not-fits c).Else-not-is_digit) full)

-- the value with the digit is at most what is allowed
room : (c : Else-not-fits) → c.loop-at.value * 10 + c.from-digit.result ≤ c.args.most
room c = leb-true _ _ (sym c.fits.ensures ∙ c.if-not-fits.false)

pub loop-at-preserved : goal.loop-at-preserved
loop-at-preserved c =
    let a = c.args in
    let fits = rw c.from-digit.ensures at (sym c.fits.ensures ∙ c.if-not-fits.false) in
    rw c.from-digit.ensures
    (c.loop-at.invariant
    ∙ digits_next a.most c.loop-at.value a.line.now c.loop-at.at (omega arith) (is (goal.at.loop-at-preserved c).Else-not-is_digit) fits)

pub returns : goal.returns
unfolding as_number
returns c =
    let a = c.args in
    sym (c.loop-at.invariant ∙ digits_end a.most c.loop-at.value a.line.now c.loop-at.at (omega arith))

pub loop-at-init : goal.loop-at-init
loop-at-init c = refl

pub overflow_sub-byte : goal.overflow_sub-byte
overflow_sub-byte c = digit_low _ (is c)

pub overflow_mul-value : goal.overflow_mul-value
overflow_mul-value c = omega (arith, room c)

pub overflow_add-value : goal.overflow_add-value
overflow_add-value c = omega (arith, room c)
