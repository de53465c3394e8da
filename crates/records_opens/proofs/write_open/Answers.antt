-- What is written at the number's place is put into the table.
use Rattle.base.proofs.Laws.{arith}
use Rattle.layout.proofs.{Fields.open_field, InPlace.{changed, open_out}, Records.open_lawful, Typed.open_fits}
use Rattle.records_opens.proofs.write_open.Goals as goal

pub returns-in-Some : goal.returns-in-Some
returns-in-Some c =
    let a = c.args in
    let place = c.in-Some.ensures in
    changed (open_field a.n place.within) a.b.now (omega arith) open_lawful a.o (open_fits a.o _ c.well_formed.1.1.0)
    (rw place.is at c.put_open.ensures)

pub returns-in_default : goal.returns-in_default
returns-in_default c =
    let a = c.args in
    open_out a.b.now (omega arith) a.n a.o c.in_default.ensures
