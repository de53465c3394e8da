-- The record at the number's place is that of the table.
use Rattle.base.proofs.Laws.{sym, arith}
use Rattle.layout.proofs.{Fields.file-field, InPlace.{in_place, file_past}}
use Rattle.tables.specs.Tables.{file_at}
use Rattle.records_files.proofs.read_file.Goals as goal

pub returns-in-Some : goal.returns-in-Some
unfolding file_at
returns-in-Some c =
    let a = c.args in
    let place = c.in-Some.ensures in
    rw (c.file_from.ensures, place.is) (sym (in_place (file-field a.n.0 place.within) a.b.now (omega arith)))

pub returns-in-None : goal.returns-in-None
unfolding file_at
returns-in-None c =
    let a = c.args in
    sym (file_past a.b.now a.n.0 c.in-None.ensures)
