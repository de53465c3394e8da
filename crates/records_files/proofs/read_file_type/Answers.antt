-- The kind stands first.
use Rattle.base.{proofs.Laws.{ap, sym, arith}, specs.Base.File}
use Rattle.codecs.proofs.Fields.{inner_first}
use Rattle.layout.proofs.{Fields.{file-field, file_type_in}, InPlace.{in_place, file_past}}
use Rattle.tables.specs.Tables.{file_at}
use Rattle.records_files.proofs.read_file_type.Goals as goal

pub returns-in-Some : goal.returns-in-Some
unfolding file_at
returns-in-Some c =
    let a = c.args in
    let place = c.in-Some.ensures in
    rw (c.kind_of.ensures, c.read_u16.ensures, place.is) (sym (in_place (inner_first (file-field a.n.0 place.within) file_type_in) a.b.now (omega arith)))

pub returns-in-None : goal.returns-in-None
unfolding file_at
returns-in-None c =
    let a = c.args in
    sym (ap (λ (f : File). f.file_type) (file_past a.b.now a.n.0 c.in-None.ensures))
