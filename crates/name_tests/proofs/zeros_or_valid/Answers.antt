use Rattle.base.{proofs.Laws.{refl, arith, all_gathered, all_gathered_end}}
use Rattle.name_tests.specs.NameTests.{zero_or_valid}
use Rattle.name_tests.proofs.zeros_or_valid.Goals as goal

pub loop-unit-preserved : goal.loop-unit-preserved
loop-unit-preserved c =
    let s = c.args in
    all_gathered (zero_or_valid s.kind) s.name.now c.loop-unit.unit-index c.loop-unit.valid c.loop-unit.invariant 0 (omega arith) c.zero_or_valid-valid.ensures

pub returns : goal.returns
returns c =
    let s = c.args in
    all_gathered_end (zero_or_valid s.kind) s.name.now c.loop-unit.unit-index c.loop-unit.valid c.loop-unit.invariant (omega arith)

pub loop-unit-init : goal.loop-unit-init
loop-unit-init c = refl
