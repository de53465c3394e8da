-- The record at the number's place is that of the table.
use Rattle.base.proofs.Laws.{sym, arith}
use Rattle.layout.proofs.{Fields.link_field, InPlace.{in_place, link_past}}
use Rattle.tables.specs.Tables.{link_at}
use Rattle.records_links.proofs.read_link.Goals as goal

pub returns-in-Some : goal.returns-in-Some
unfolding link_at
returns-in-Some c =
    let a = c.args in
    let place = c.in-Some.ensures in
    rw (c.link_from.ensures, place.is) (sym (in_place (link_field a.n.0 place.within) a.b.now (omega arith)))

pub returns-in-None : goal.returns-in-None
unfolding link_at
returns-in-None c =
    let a = c.args in
    sym (link_past a.b.now a.n.0 c.in-None.ensures)
