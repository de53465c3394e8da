-- What is written at the number's place is put into the table.
use Rattle.base.proofs.Laws.{arith}
use Rattle.layout.proofs.{Fields.stream-field, InPlace.{changed, stream_out}, Records.stream_lawful, Typed.stream_fits}
use Rattle.records_streams.proofs.write_stream.Goals as goal

pub returns-in-Some : goal.returns-in-Some
returns-in-Some c =
    let a = c.args in
    let place = c.in-Some.ensures in
    changed (stream-field a.n.0 place.within) a.b.now (omega arith) stream_lawful a.s (stream_fits a.s _ c.well_formed.1.1.0)
    (rw place.is at c.put_stream.ensures)

pub returns-in_default : goal.returns-in_default
returns-in_default c =
    let a = c.args in
    stream_out a.b.now (omega arith) a.n.0 a.s c.in_default.ensures
