-- What is written is put.
use Rattle.base.proofs.Laws.{arith}
use Rattle.layout.proofs.{Fields.mark_field, InPlace.changed, Records.mark_lawful}
use Rattle.records_volume.proofs.write_mark.Goals as goal

pub returns : goal.returns
returns c =
    let a = c.args in
    changed mark_field a.b.now (omega arith) mark_lawful a.mark tt
    (rw c.mark_number.ensures at c.write_u16.ensures)
