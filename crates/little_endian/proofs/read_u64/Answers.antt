-- The number's two halves stand side by side.
use Rattle.std.proofs.Common.{arith}
use Rattle.little_endian.proofs.Numbers.{from-part}
use Rattle.little_endian.proofs.read_u64.Goals as goal

pub returns : goal.returns
returns c = rw (c.read_u32-low.ensures, c.read_u32-high.ensures, from-part c.args.b.now c.args.at 4 4 (omega arith))
