-- The stream stands after the file.
use Rattle.base.{proofs.Laws.{ap, sym, arith}, specs.Base.Open}
use Rattle.codecs.proofs.Fields.{inner}
use Rattle.layout.proofs.{Fields.{open_field, open_stream_in}, InPlace.{in_place, open_past}}
use Rattle.tables.specs.Tables.{row_at}
use Rattle.records_opens.proofs.read_open_stream.Goals as goal

pub returns-in-Some : goal.returns-in-Some
unfolding row_at
returns-in-Some c =
    let a = c.args in
    let place = c.in-Some.ensures in
    rw (c.read_u16.ensures, place.is) (sym (in_place (inner (open_field a.n place.within) open_stream_in) a.b.now (omega arith)))

pub returns-in-None : goal.returns-in-None
unfolding row_at
returns-in-None c =
    let a = c.args in
    sym (ap (λ (o : Open). o.stream) (open_past a.b.now a.n c.in-None.ensures))
