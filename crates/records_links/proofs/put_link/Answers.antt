-- The fields are written side by side.
use Rattle.base.proofs.Laws.{arith}
use Rattle.little_endian.proofs.Numbers.{after}
use Rattle.records.proofs.Lengths.{link_name_length}
use Rattle.records_links.proofs.put_link.Goals as goal

pub write_units-requires : goal.write_units-requires
write_units-requires c =
    let n = link_name_length c.args.l _ c.well_formed.1.1.0 in
    omega arith

pub returns : goal.returns
returns c =
    after 2 _ (omega arith) c.write_u16.ensures
    (after 2 _ (omega arith) c.write_u16-2.ensures c.write_units.ensures)
