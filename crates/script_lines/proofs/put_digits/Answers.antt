use Rattle.base.{specs.Base.{◌≤◌, ◌<◌, ◌≡◌, Bool, true, false, cond}, proofs.Laws.{refl, ◌∙◌, ap, arith}}
use Prim.Native.Nat.{◌%◌}
use native.Mathlib.Nat.{mod-lt}
use Rattle.script_lines.proofs.{Printing.{write_none, write_next, write_all}}
use Rattle.script_lines.specs.Print.{digit}
use Rattle.script_lines.proofs.put_digits.Goals as goal
use Rattle.script_lines.proofs.put_digits.Goals.{In-loop-i}

bases : (hex : Bool) → (0 < cond hex 16 10) × (cond hex 16 10 ≤ 16)
bases true = (omega arith, omega arith)
bases false = (omega arith, omega arith)

-- a digit is below the base
module _ (c : In-loop-i) where
  some : 0 < c.base_of-base.result
  some = omega (arith, bases c.args.hex, c.base_of-base.ensures)

  small : c.loop-i.left % c.base_of-base.result < 16
  small =
      let k = mod-lt c.loop-i.left {m = c.base_of-base.result} some in
      omega (arith, k, bases c.args.hex, c.base_of-base.ensures)

pub returns-then-count-width : goal.returns-then-count-width
returns-then-count-width c = record { is = λ h. absurd (let z : ⊥ = omega arith in z); kept = refl }

pub returns-then-count-width-2 : goal.returns-then-count-width-2
returns-then-count-width-2 c = record { is = λ h. absurd (let z : ⊥ = omega arith in z); kept = refl }

pub loop-i-preserved : goal.loop-i-preserved
loop-i-preserved c =
    let byte = c.digit_byte in
    let k = small (goal.at.loop-i-preserved c).In-loop-i in
    let same : (c.loop-i.left % c.base_of-base.result) % 16 ≡ c.loop-i.left % c.base_of-base.result = omega arith in
    write_next c.loop-i.invariant byte.result (byte.ensures ∙ ap digit same) (omega arith) (omega arith)

pub returns : goal.returns
returns c =
    let w = c.loop-i.invariant in
    record { is = λ h. rw (← c.base_of-base.ensures) (write_all w (omega arith)); kept = w.long }

pub loop-i-init : goal.loop-i-init
loop-i-init c = write_none

pub overflow_add-out : goal.overflow_add-out
overflow_add-out c = omega (arith, c.loop-i.invariant.room)

pub bounds-out-at : goal.bounds-out-at
bounds-out-at c = omega (arith, c.loop-i.invariant.room, c.loop-i.invariant.long)

pub nonzero_div-left : goal.nonzero_div-left
nonzero_div-left c = some (goal.at.nonzero_div-left c).In-loop-i

pub shape_of-out : goal.shape_of-out
shape_of-out c = c.loop-i.invariant.long
