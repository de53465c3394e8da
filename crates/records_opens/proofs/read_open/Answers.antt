-- The record at the number's place is that of the table.
use Rattle.base.proofs.Laws.{sym, arith}
use Rattle.layout.proofs.{Fields.open_field, InPlace.{in_place, open_past}}
use Rattle.tables.specs.Tables.{row_at}
use Rattle.records_opens.proofs.read_open.Goals as goal

pub returns-in-Some : goal.returns-in-Some
unfolding row_at
returns-in-Some c =
    let a = c.args in
    let place = c.in-Some.ensures in
    rw (c.open_from.ensures, place.is) (sym (in_place (open_field a.n place.within) a.b.now (omega arith)))

pub returns-in-None : goal.returns-in-None
unfolding row_at
returns-in-None c =
    let a = c.args in
    sym (open_past a.b.now a.n c.in-None.ensures)
