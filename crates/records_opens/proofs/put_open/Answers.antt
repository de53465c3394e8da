-- The fields are written side by side.
use Rattle.base.proofs.Laws.{arith}
use Rattle.little_endian.proofs.Numbers.{after}
use Rattle.records_opens.proofs.put_open.Goals as goal

pub returns : goal.returns
returns c =
    after 8 _ (omega arith) c.write_u64.ensures
    (after 2 _ (omega arith) c.write_u16.ensures
    (after 2 _ (omega arith) c.write_u16-2.ensures
    (after 4 _ (omega arith) c.write_u32.ensures
    (after 4 _ (omega arith) c.write_u32-2.ensures
    (rw c.mark_number.ensures at c.write_u16-3.ensures)))))
