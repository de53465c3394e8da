-- The parent stands first.
use Rattle.base.{proofs.Laws.{ap, sym, arith}, specs.Base.Link}
use Rattle.codecs.proofs.Fields.{inner_first}
use Rattle.layout.proofs.{Fields.{link_field, parent_in}, InPlace.{in_place, link_past}}
use Rattle.tables.specs.Tables.{link_at}
use Rattle.records_links.proofs.read_parent.Goals as goal

pub returns-in-Some : goal.returns-in-Some
unfolding link_at
returns-in-Some c =
    let a = c.args in
    let place = c.in-Some.ensures in
    rw (c.read_u16.ensures, place.is) (sym (in_place (inner_first (link_field a.n.0 place.within) parent_in) a.b.now (omega arith)))

pub returns-in-None : goal.returns-in-None
unfolding link_at
returns-in-None c =
    let a = c.args in
    sym (ap (λ (l : Link). l.parent) (link_past a.b.now a.n.0 c.in-None.ensures))
