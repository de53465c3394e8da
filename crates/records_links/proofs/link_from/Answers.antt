-- Each field is read where the record has it.
use Rattle.layout.proofs.Parts.{link_parts}
use Rattle.records_links.proofs.link_from.Goals as goal

pub returns : goal.returns
returns c =
    let a = c.args in
    rw (
      link_parts a.b.now a.at,
      c.read_units.ensures,
      c.read_u16-2.ensures,
      c.read_u16.ensures,
    )
