use Rattle.base.proofs.Laws.{sym, ◌∙◌, arith}
use Rattle.script_lines.proofs.{Reading.{line_long, line_short, line_unspaced, line_command, command_open, command-close, command_other}}
use Rattle.script_lines.specs.Found.{as_call}
use Rattle.script_lines.proofs.read_line.Goals as goal
use Rattle.script_lines.proofs.read_line.Goals.{then-line-gt-LINE_LIMIT-via-then-line-gt-LINE_LIMIT, then-line-gt-LINE_LIMIT-via-else-line-gt-LINE_LIMIT+then-line-lt2, then-line-gt-LINE_LIMIT-via-else-line-gt-LINE_LIMIT+else-line-lt2+then-line-ne-SPACE}

pub returns-then-line-gt-LINE_LIMIT : goal.returns-then-line-gt-LINE_LIMIT
unfolding as_call
returns-then-line-gt-LINE_LIMIT c =
    let line = c.args.line.now in
    elim c.then-line-gt-LINE_LIMIT.branch [
      | then-line-gt-LINE_LIMIT-via-then-line-gt-LINE_LIMIT w ↦ sym (line_long line w.if-line-gt-LINE_LIMIT.true)
      | then-line-gt-LINE_LIMIT-via-else-line-gt-LINE_LIMIT+then-line-lt2 w ↦
          sym (line_short line w.if-line-gt-LINE_LIMIT.false w.if-line-lt2.true)
      | then-line-gt-LINE_LIMIT-via-else-line-gt-LINE_LIMIT+else-line-lt2+then-line-ne-SPACE w ↦
          sym (line_unspaced line w.if-line-gt-LINE_LIMIT.false w.if-line-ne-SPACE.true)
    ]

pub returns-in-79 : goal.returns-in-79
returns-in-79 c =
    let line = c.args.line.now in
    c.read_open.ensures
    ∙ sym (line_command line c.if-line-gt-LINE_LIMIT.false c.if-line-ne-SPACE.false ∙ command_open _ _ c.in-79.is)

pub returns-in-67 : goal.returns-in-67
returns-in-67 c =
    let line = c.args.line.now in
    c.read_close.ensures
    ∙ sym (line_command line c.if-line-gt-LINE_LIMIT.false c.if-line-ne-SPACE.false ∙ command-close _ _ c.in-67.is)

pub returns-in_default : goal.returns-in_default
unfolding as_call
returns-in_default c =
    let line = c.args.line.now in
    sym
    (line_command line c.if-line-gt-LINE_LIMIT.false c.if-line-ne-SPACE.false ∙ command_other _ _ (λ e. let z : ⊥ = omega arith in z) (λ e. let z : ⊥ = omega arith in z))
