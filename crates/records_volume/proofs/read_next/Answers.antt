-- The handle stands after the mark.
use Rattle.base.proofs.Laws.{sym, arith}
use Rattle.layout.proofs.{Fields.next_field, InPlace.in_place}
use Rattle.records_volume.proofs.read_next.Goals as goal

pub returns : goal.returns
returns c =
    let a = c.args in
    rw c.read_u64.ensures (sym (in_place next_field a.b.now (omega arith)))
