use Rattle.base.{proofs.Laws.{refl, all_gathered, all_gathered_end}}
use Rattle.stored_names.proofs.StoredUnits.{is_zero, zeros}
use Rattle.image_alone.proofs.is_clear.Goals as goal

pub loop-byte-preserved : goal.loop-byte-preserved
loop-byte-preserved c =
    all_gathered is_zero c.args.b.now c.loop-byte.byte-index c.loop-byte.zeros c.loop-byte.invariant 0 c.loop-byte-test.true refl

pub returns : goal.returns
returns c =
    all_gathered_end is_zero c.args.b.now c.loop-byte.byte-index c.loop-byte.zeros c.loop-byte.invariant c.loop-byte-test.false

pub loop-byte-init : goal.loop-byte-init
loop-byte-init c = zeros c.args.b.now
