-- The record at the number's place is that of the table.
use Rattle.base.proofs.Laws.{sym, arith}
use Rattle.layout.proofs.{Fields.stream-field, InPlace.{in_place, stream_past}}
use Rattle.tables.specs.Tables.{stream_at}
use Rattle.records_streams.proofs.read_stream.Goals as goal

pub returns-in-Some : goal.returns-in-Some
unfolding stream_at
returns-in-Some c =
    let a = c.args in
    let place = c.in-Some.ensures in
    rw (c.stream_from.ensures, place.is) (sym (in_place (stream-field a.n.0 place.within) a.b.now (omega arith)))

pub returns-in-None : goal.returns-in-None
unfolding stream_at
returns-in-None c =
    let a = c.args in
    sym (stream_past a.b.now a.n.0 c.in-None.ensures)
