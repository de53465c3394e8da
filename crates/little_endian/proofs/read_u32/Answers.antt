-- The number's two halves stand side by side.
use Rattle.std.proofs.Common.{arith}
use Rattle.little_endian.proofs.Numbers.{from-part}
use Rattle.little_endian.proofs.read_u32.Goals as goal

pub returns : goal.returns
returns c = rw (c.read_u16-low.ensures, c.read_u16-high.ensures, from-part c.args.b.now c.args.at 2 2 (omega arith))
