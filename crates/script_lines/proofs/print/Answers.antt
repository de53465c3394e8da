-- Each part is put after those before it.
use Rattle.base.{specs.Base.{ℕ, ◌+◌, ◌≤◌, ◌≡◌, ◌++◌, List, [], ◌∷◌, length, set, take}, proofs.Laws.{◌∙◌, ap, arith, length-set}}
use Rattle.script_lines.proofs.{Widths.decimal_bound, Printing.{put_byte, put_action, put_reply}}
use Rattle.reply_numbers.specs.Numbers.{answer_seen}
use Rattle.script_lines.specs.{Lines.space, Print.{digits, line_end}}
use Rattle.script_lines.proofs.print.Goals as goal
use Rattle.script_lines.proofs.print.Goals.{After-decimal_width-width, After-put_digits-2}

-- the handle's digits, and the bytes' length, which both calls keep
width : (c : After-decimal_width-width) → c.decimal_width-width.result ≤ 20
width c = omega (arith, c.decimal_width-width.ensures, decimal_bound c.handle_of-handle.result)

-- the bytes before the handle's digits
long : (c : After-put_digits-2) →
    length (set (set (set c.put_digits.new.out 8 space) 9 c.action_byte.result) 10 space) ≡ 32
long c = simp length-set c.put_digits.ensures.kept

pub returns : goal.returns
returns c =
    let n = c.decimal_width-width.result in
    let k = width (goal.at.returns c).After-decimal_width-width in
    let b = c.put_digits-2.new.out in
    let l = long (goal.at.returns c).After-put_digits-2 in
    let e = c.put_digits-2.ensures.kept ∙ l in
    let status = c.status_of.result in
    let action = c.action_byte.result in
    let handle = c.handle_of-handle.result in
    let text = digits 16 8 status ++ (space ∷ action ∷ space ∷ []) in
    record {
      is =
          ap (λ (m : ℕ). take m (set b (11 + n) line_end)) (let z : 12 + n ≡ 11 + n + 1 = omega arith in z)
          ∙ put_byte b (text ++ digits 10 n handle) (11 + n) line_end
          (c.put_digits-2.ensures.is (omega arith)
          ∙ ap (λ (x : List ℕ). x ++ digits 10 n handle)
          (put_action c.put_digits.new.out (digits 16 8 status) action (c.put_digits.ensures.is (omega arith)) c.put_digits.ensures.kept))
          (omega arith)
          ∙ put_reply (answer_seen c.args.a) status action handle n c.status_of.ensures c.action_byte.ensures c.handle_of-handle.ensures c.decimal_width-width.ensures;
      within = omega arith;
      long = simp length-set e;
    }

pub overflow_add-bytes : goal.overflow_add-bytes
overflow_add-bytes c = omega (arith, width (goal.at.overflow_add-bytes c).After-decimal_width-width)

pub bounds-bytes-width : goal.bounds-bytes-width
bounds-bytes-width c = omega (arith, width (goal.at.bounds-bytes-width c).After-decimal_width-width)

pub overflow_add-result : goal.overflow_add-result
overflow_add-result c = omega (arith, width (goal.at.overflow_add-result c).After-decimal_width-width)

pub invariant_of-result : goal.invariant_of-result
invariant_of-result c =
    record { inside = omega (arith, width (goal.at.invariant_of-result c).After-decimal_width-width) }
