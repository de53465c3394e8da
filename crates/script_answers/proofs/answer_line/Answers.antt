-- By what the line asks.
use Rattle.std.specs.Prelude.{Some}
use Rattle.base.proofs.Laws.{◌∙◌, ap}
use Rattle.script_answers.proofs.{Lines.{line_unknown, line_open, line_close}}
use Rattle.script_answers.proofs.answer_line.Goals as goal

pub returns-in-None : goal.returns-in-None
returns-in-None c =
    let a = c.args in
    line_unknown a.line.now _ a.b.now
    c.read_line.ensures c.in-None.is
    c.print_unknown.ensures

pub returns-in-Some-Open : goal.returns-in-Some-Open
returns-in-Some-Open c =
    let a = c.args in
    line_open a.line.now _ a.b.now _ _
    c.read_line.ensures (c.in-Some-Open.is ∙ ap Some c.in-Some-Open.field-0-is)
    (c.as_slice.ensures ∙ c.path_units-path.ensures.is)
    c.open.ensures
    c.print.ensures

pub returns-in-Some-Close : goal.returns-in-Some-Close
returns-in-Some-Close c =
    let a = c.args in
    line_close a.line.now _ a.b.now _ _
    c.read_line.ensures (c.in-Some-Close.is ∙ ap Some c.in-Some-Close.field-0-is)
    c.close.ensures
    c.print-in-Some-Close.ensures
