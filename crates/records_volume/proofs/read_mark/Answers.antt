-- The mark stands first.
use Rattle.base.proofs.Laws.{sym, ◌∙◌, arith}
use Rattle.layout.proofs.{Fields.mark_field, InPlace.in_place, Tests.mark_test}
use Rattle.records_volume.proofs.read_mark.Goals as goal

pub returns : goal.returns
returns c =
    let a = c.args in
    rw c.read_u16.ensures (mark_test _ ∙ sym (in_place mark_field a.b.now (omega arith)))
