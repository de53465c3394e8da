-- What is written at the stream's end is put into the table.
use Rattle.base.proofs.Laws.{arith}
use Rattle.layout.proofs.{Fields.counts-field, InPlace.{changed, counts_out}, Records.counts_lawful, Typed.counts_fit}
use Rattle.records_streams.proofs.write_counts.Goals as goal

pub returns-in-Some : goal.returns-in-Some
returns-in-Some c =
    let a = c.args in
    let place = c.in-Some.ensures in
    changed (counts-field a.n.0 place.within) a.b.now (omega arith) counts_lawful a.c (counts_fit a.c _ c.well_formed.1.1.0)
    (rw place.is at c.put_counts.ensures)

pub returns-in_default : goal.returns-in_default
returns-in_default c =
    let a = c.args in
    counts_out a.b.now (omega arith) a.n.0 a.c c.in_default.ensures
