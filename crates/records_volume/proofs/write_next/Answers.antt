-- What is written is put.
use Rattle.base.proofs.Laws.{arith}
use Rattle.layout.proofs.{Fields.next_field, InPlace.changed, Records.handle_lawful}
use Rattle.records_volume.proofs.write_next.Goals as goal

pub returns : goal.returns
returns c =
    let a = c.args in
    changed next_field a.b.now (omega arith) handle_lawful a.h c.well_formed.1.0.1.1.0.1
    c.write_u64.ensures
