-- The mark stands last.
use Rattle.base.{proofs.Laws.{ap, sym, ◌∙◌, arith}, specs.Base.Stream}
use Rattle.codecs.proofs.Fields.{inner}
use Rattle.layout.proofs.{Fields.{stream-field, stream_mark_in_lem}, InPlace.{in_place, stream_past}, Tests.mark_test}
use Rattle.tables.specs.Tables.{stream_at}
use Rattle.records_streams.proofs.read_stream_mark.Goals as goal

pub returns-in-Some : goal.returns-in-Some
unfolding stream_at
returns-in-Some c =
    let a = c.args in
    let place = c.in-Some.ensures in
    rw (c.read_u16.ensures, place.is)
    (mark_test _ ∙ sym (in_place (inner (stream-field a.n.0 place.within) stream_mark_in_lem) a.b.now (omega arith)))

pub returns-in-None : goal.returns-in-None
unfolding stream_at
returns-in-None c =
    let a = c.args in
    sym (ap (λ (s : Stream). s.delete_pending) (stream_past a.b.now a.n.0 c.in-None.ensures))
