-- The first unit of the name says it.
use Rattle.base.{proofs.Laws.{ap, sym, arith}, specs.Base.{ℕ, not, eqb, link_used}}
use Rattle.codecs.proofs.Fields.{inner}
use Rattle.layout.proofs.{Fields.{link_field, link_unit_in}, InPlace.{in_place, link_past}}
use Rattle.tables.specs.Tables.{link_at}
use Rattle.records_links.proofs.read_link_used.Goals as goal

pub returns-in-Some : goal.returns-in-Some
unfolding link_at link_used
returns-in-Some c =
    let a = c.args in
    let place = c.in-Some.ensures in
    rw (c.read_u16.ensures, place.is)
    (sym (ap (λ (u : ℕ). not (eqb u 0)) (in_place (inner (link_field a.n.0 place.within) link_unit_in) a.b.now (omega arith))))

pub returns-in-None : goal.returns-in-None
unfolding link_at link_used
returns-in-None c =
    let a = c.args in
    sym (ap link_used (link_past a.b.now a.n.0 c.in-None.ensures))
