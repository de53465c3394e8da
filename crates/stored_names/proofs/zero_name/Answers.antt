use Rattle.base.{proofs.Laws.{refl, arith, all_gathered, all_gathered_end}}
use Rattle.stored_names.proofs.{StoredUnits.{is_zero, zeros}}
use Rattle.stored_names.proofs.zero_name.Goals as goal

pub loop-unit-preserved : goal.loop-unit-preserved
loop-unit-preserved c =
    all_gathered is_zero c.args.name.now c.loop-unit.unit-index c.loop-unit.zeros c.loop-unit.invariant 0 (omega arith) refl

pub returns : goal.returns
returns c =
    all_gathered_end is_zero c.args.name.now c.loop-unit.unit-index c.loop-unit.zeros c.loop-unit.invariant (omega arith)

pub loop-unit-init : goal.loop-unit-init
loop-unit-init c = zeros c.args.name.now
