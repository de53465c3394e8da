-- What is written at the number's place is put into the table.
use Rattle.base.proofs.Laws.{arith}
use Rattle.layout.proofs.{Fields.file-field, InPlace.{changed, file_out}, Records.file_lawful, Typed.file_fits}
use Rattle.records_files.proofs.write_file.Goals as goal

pub returns-in-Some : goal.returns-in-Some
returns-in-Some c =
    let a = c.args in
    let place = c.in-Some.ensures in
    changed (file-field a.n.0 place.within) a.b.now (omega arith) file_lawful a.f (file_fits a.f _ c.well_formed.1.1.0)
    (rw place.is at c.put_file.ensures)

pub returns-in_default : goal.returns-in_default
returns-in_default c =
    let a = c.args in
    file_out a.b.now (omega arith) a.n.0 a.f c.in_default.ensures
