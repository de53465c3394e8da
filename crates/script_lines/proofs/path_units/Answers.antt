use Rattle.base.{specs.Base.{◌≡◌}, proofs.Laws.{refl, arith}}
use Rattle.script_lines.proofs.Units.{PathCopied, units_next, units_all}
use Rattle.script_lines.proofs.path_units.Goals as goal

pub loop-i-init : goal.loop-i-init
loop-i-init c = record { long = refl; is = refl }

pub loop-i-preserved : goal.loop-i-preserved
loop-i-preserved c = rw c.from.ensures (units_next c.loop-i.invariant (omega arith) (omega arith))

pub returns : goal.returns
returns c =
    let e : c.loop-i.i ≡ c.min-count.result = omega arith in
    let copied : PathCopied c.args.line.now c.args.from c.loop-i.units c.min-count.result = rw e at c.loop-i.invariant in
    record { is = units_all copied (omega arith) (λ h. omega arith); within = omega arith; long = copied.long }
