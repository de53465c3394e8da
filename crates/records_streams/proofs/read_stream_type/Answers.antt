-- The kind stands first.
use Rattle.base.{proofs.Laws.{ap, sym, arith}, specs.Base.Stream}
use Rattle.codecs.proofs.Fields.{inner_first}
use Rattle.layout.proofs.{Fields.{stream-field, stream_type_in}, InPlace.{in_place, stream_past}}
use Rattle.tables.specs.Tables.{stream_at}
use Rattle.records_streams.proofs.read_stream_type.Goals as goal

pub returns-in-Some : goal.returns-in-Some
unfolding stream_at
returns-in-Some c =
    let a = c.args in
    let place = c.in-Some.ensures in
    rw (c.kind_of.ensures, c.read_u16.ensures, place.is) (sym (in_place (inner_first (stream-field a.n.0 place.within) stream_type_in) a.b.now (omega arith)))

pub returns-in-None : goal.returns-in-None
unfolding stream_at
returns-in-None c =
    let a = c.args in
    sym (ap (λ (s : Stream). s.stream_type) (stream_past a.b.now a.n.0 c.in-None.ensures))
