-- The number's two halves are written side by side.
use Rattle.std.proofs.Common.{arith}
use Rattle.little_endian.proofs.Numbers.{halves}
use Rattle.little_endian.proofs.write_u64.Goals as goal

pub returns : goal.returns
returns c = halves c.args.at 4 4 c.args.x (omega arith) c.write_u32.ensures c.write_u32-2.ensures
