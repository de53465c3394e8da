-- Each field is read where the record has it.
use Rattle.layout.proofs.{Parts.file-parts, Tests.mark_test}
use Rattle.records_files.proofs.file_from.Goals as goal

pub returns : goal.returns
returns c =
    let a = c.args in
    rw (
      file-parts a.b.now a.at,
      ← (mark_test _),
      c.read_words.ensures,
      c.kind_of.ensures,
      c.read_u32.ensures,
      c.read_u16.ensures,
      c.read_u16-2.ensures,
    )
