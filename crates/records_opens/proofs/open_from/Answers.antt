-- Each field is read where the record has it.
use Rattle.layout.proofs.{Parts.open_parts, Tests.mark_test}
use Rattle.records_opens.proofs.open_from.Goals as goal

pub returns : goal.returns
returns c =
    let a = c.args in
    rw (
      open_parts a.b.now a.at,
      ← (mark_test _),
      c.read_u16-3.ensures,
      c.read_u32-2.ensures,
      c.read_u32.ensures,
      c.read_u16-2.ensures,
      c.read_u16.ensures,
      c.read_u64.ensures,
    )
