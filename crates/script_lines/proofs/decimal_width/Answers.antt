use Rattle.base.{specs.Base.{◌-◌, ◌+◌, ◌≡◌}, proofs.Laws.{arith}}
use Rattle.script_lines.proofs.{Widths.{width_end, width_next}}
use Rattle.script_lines.specs.Print.{width_up_to, decimal_width}
use Rattle.script_lines.proofs.decimal_width.Goals as goal

pub loop-width-preserved : goal.loop-width-preserved
loop-width-preserved c =
    let l = c.loop-width in
    let n = width_next (20 - l.width) (20 - (l.width + 1)) l.left (omega arith) c.if-left-lt10.false in
    omega arith

pub returns-then-left-lt10 : goal.returns-then-left-lt10
unfolding decimal_width
returns-then-left-lt10 c =
    let l = c.loop-width in
    let n = width_end (20 - l.width) l.left c.if-left-lt10.true in
    omega arith

pub returns : goal.returns
unfolding decimal_width width_up_to
returns c =
    let l = c.loop-width in
    let e : 20 - l.width ≡ 0 = omega arith in
    let k : width_up_to (20 - l.width) l.left ≡ 1 = rw e in
    omega arith
