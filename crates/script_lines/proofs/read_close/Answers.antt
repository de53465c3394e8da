use Rattle.base.{specs.Base.{◌≡◌, some, drop}, proofs.Laws.{sym}}
use Rattle.script_lines.proofs.{Reading.{close_none, close_longer, close_is}}
use Rattle.script_lines.specs.{Lines.{most64, number}, Found.{field_at, as_number, as_call}}
use Rattle.script_lines.proofs.read_close.Goals as goal
use Rattle.script_lines.proofs.read_close.Goals.{In_ok-handle}

pub returns-in_err-handle : goal.returns-in_err-handle
unfolding as_number as_call
returns-in_err-handle c =
    rw c.from_residual.ensures (sym (close_none c.args.line.now 2 (sym c.in_err-handle.ensures)))

-- the number that is read
read : (c : In_ok-handle) →
    let line = c.args.line.now in
    number most64 (drop 2 line) ≡ some (field_at line c.in_ok-handle.handle c.in_ok-handle.end)
unfolding as_number
read c = sym c.in_ok-handle.ensures

pub returns-then-end-line : goal.returns-then-end-line
unfolding as_call
returns-then-end-line c =
    sym (close_longer c.args.line.now 2 _ _ (read (goal.at.returns-then-end-line c).In_ok-handle) c.if-end-line.true)

pub returns : goal.returns
unfolding as_call
returns c = sym (close_is c.args.line.now 2 _ _ (read (goal.at.returns c).In_ok-handle) c.if-end-line.false)
