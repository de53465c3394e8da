-- What is written at the number's place is put into the table.
use Rattle.base.proofs.Laws.{arith}
use Rattle.layout.proofs.{Fields.link_field, InPlace.{changed, link_out}, Records.link_lawful, Typed.link_fits}
use Rattle.records_links.proofs.write_link.Goals as goal

pub returns-in-Some : goal.returns-in-Some
returns-in-Some c =
    let a = c.args in
    let place = c.in-Some.ensures in
    changed (link_field a.n.0 place.within) a.b.now (omega arith) link_lawful a.l (link_fits a.l _ c.well_formed.1.1.0)
    (rw place.is at c.put_link.ensures)

pub returns-in_default : goal.returns-in_default
returns-in_default c =
    let a = c.args in
    link_out a.b.now (omega arith) a.n.0 a.l c.in_default.ensures
