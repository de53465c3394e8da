use Rattle.base.{specs.Base.{◌≡◌, some, drop}, proofs.Laws.{sym, arith}}
use Rattle.script_lines.proofs.{Reading.{field_none, field_end, field_other, field_is, field_fits}}
use Rattle.script_lines.specs.{Lines.{most32, number}, Found.{field_at, as_number}}
use Rattle.script_lines.proofs.field_at.Goals as goal
use Rattle.script_lines.proofs.field_at.Goals.{In_ok-value, else-end-line-via-then-end-line+else-line-end-eq-SPACE, else-end-line-via-else-end-line}

pub returns-in_err-value : goal.returns-in_err-value
unfolding as_number
returns-in_err-value c =
    let a = c.args in
    rw c.from_residual.ensures (sym (field_none a.line.now a.from (sym c.in_err-value.ensures)))

-- the number that is read
read : (c : In_ok-value) →
    let a = c.args in
    number most32 (drop a.from a.line.now) ≡ some (field_at a.line.now c.in_ok-value.value c.in_ok-value.end)
unfolding as_number
read c = sym c.in_ok-value.ensures

pub overflow_cast-result : goal.overflow_cast-result
overflow_cast-result c =
    let a = c.args in
    omega (arith, field_fits a.line.now a.from _ _ (read (goal.at.overflow_cast-result c).In_ok-value))

pub returns-then-line-end-eq-SPACE : goal.returns-then-line-end-eq-SPACE
unfolding as_number
returns-then-line-end-eq-SPACE c =
    let a = c.args in
    let e = read (goal.at.returns-then-line-end-eq-SPACE c).In_ok-value in
    sym (field_is a.line.now a.from _ _ e c.if-line-end-eq-SPACE.true)

pub returns-else-end-line : goal.returns-else-end-line
unfolding as_number
returns-else-end-line c =
    let a = c.args in
    let e = read (goal.at.returns-else-end-line c).In_ok-value in
    elim c.else-end-line.branch [
      | else-end-line-via-then-end-line+else-line-end-eq-SPACE w ↦
          sym (field_other a.line.now a.from _ _ e w.if-line-end-eq-SPACE.false)
      | else-end-line-via-else-end-line w ↦ sym (field_end a.line.now a.from _ _ e w.if-end-line.false)
    ]
