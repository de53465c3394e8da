-- The fields are written side by side.
use Rattle.base.proofs.Laws.{arith}
use Rattle.little_endian.proofs.Numbers.{after}
use Rattle.records_streams.proofs.put_counts.Goals as goal

pub returns : goal.returns
returns c =
    after 2 _ (omega arith) c.write_u16.ensures
    (after 2 _ (omega arith) c.write_u16-2.ensures
    (after 2 _ (omega arith) c.write_u16-3.ensures
    (after 2 _ (omega arith) c.write_u16-4.ensures
    (after 2 _ (omega arith) c.write_u16-5.ensures
    (after 2 _ (omega arith) c.write_u16-6.ensures
    c.write_u16-7.ensures)))))
