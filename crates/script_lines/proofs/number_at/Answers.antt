use Rattle.base.{proofs.Laws.{sym, ◌∙◌}}
use Rattle.script_lines.proofs.{Reading.{number_end, number_other, number_is}}
use Rattle.script_lines.specs.Found.{as_number}
use Rattle.script_lines.proofs.number_at.Goals as goal
use Rattle.script_lines.proofs.number_at.Goals.{else-from-line-via-then-from-line+else-is_digit, else-from-line-via-else-from-line}

pub returns-then-is_digit : goal.returns-then-is_digit
returns-then-is_digit c =
    let a = c.args in
    c.digits_at.ensures
    ∙ sym (number_is a.most a.line.now a.from (sym c.is_digit.ensures ∙ c.if-is_digit.true))

pub returns-else-from-line : goal.returns-else-from-line
unfolding as_number
returns-else-from-line c =
    let a = c.args in
    elim c.else-from-line.branch [
      | else-from-line-via-then-from-line+else-is_digit w ↦
          sym (number_other a.most a.line.now a.from (sym w.is_digit.ensures ∙ w.if-is_digit.false))
      | else-from-line-via-else-from-line w ↦ sym (number_end a.most a.line.now a.from w.if-from-line.false)
    ]
