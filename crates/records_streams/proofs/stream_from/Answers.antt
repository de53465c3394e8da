-- Each field is read where the record has it.
use Rattle.layout.proofs.{Parts.stream-parts, Tests.mark_test}
use Rattle.records_streams.proofs.stream_from.Goals as goal

pub returns : goal.returns
returns c =
    let a = c.args in
    rw (
      stream-parts a.b.now a.at,
      c.read_units.ensures,
      ← (mark_test _),
      c.read_u16-3.ensures,
      c.counts_from.ensures,
      c.read_u16.ensures,
      c.kind_of.ensures,
      c.read_u16-2.ensures,
    )
