-- The mark stands last.
use Rattle.base.{proofs.Laws.{ap, sym, ◌∙◌, arith}, specs.Base.File}
use Rattle.codecs.proofs.Fields.{inner}
use Rattle.layout.proofs.{Fields.{file-field, file_mark_in_lem}, InPlace.{in_place, file_past}, Tests.mark_test}
use Rattle.tables.specs.Tables.{file_at}
use Rattle.records_files.proofs.read_file_mark.Goals as goal

pub returns-in-Some : goal.returns-in-Some
unfolding file_at
returns-in-Some c =
    let a = c.args in
    let place = c.in-Some.ensures in
    rw (c.read_u16.ensures, place.is)
    (mark_test _ ∙ sym (in_place (inner (file-field a.n.0 place.within) file_mark_in_lem) a.b.now (omega arith)))

pub returns-in-None : goal.returns-in-None
unfolding file_at
returns-in-None c =
    let a = c.args in
    sym (ap (λ (f : File). f.delete_pending) (file_past a.b.now a.n.0 c.in-None.ensures))
