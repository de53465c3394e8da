-- The number's two halves are written side by side.
use Rattle.std.proofs.Common.{arith}
use Rattle.little_endian.proofs.Numbers.{halves}
use Rattle.little_endian.proofs.write_u32.Goals as goal

pub returns : goal.returns
returns c = halves c.args.at 2 2 c.args.x (omega arith) c.write_u16.ensures c.write_u16-2.ensures
