-- Each field is read where the record has it.
use Rattle.layout.proofs.Parts.{counts-parts}
use Rattle.records_streams.proofs.counts_from.Goals as goal

pub returns : goal.returns
returns c =
    let a = c.args in
    rw (
      counts-parts a.b.now a.at,
      c.read_u16.ensures,
      c.read_u16-2.ensures,
      c.read_u16-3.ensures,
      c.read_u16-4.ensures,
      c.read_u16-5.ensures,
      c.read_u16-6.ensures,
      c.read_u16-7.ensures,
    )
