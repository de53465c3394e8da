-- The two bytes at the place are those of the part.
use Rattle.std.proofs.Common.{suc, ◌+◌, arith}
use native.Mathlib.{Numerals.add-one}
use Rattle.little_endian.proofs.{Numbers.part_cons}
use Rattle.little_endian.specs.LittleEndian.{from_bytes}
use Rattle.little_endian.proofs.read_u16.Goals as goal

pub returns : goal.returns
unfolding from_bytes
returns c =
    let b = c.args.b.now in
    let at = c.args.at in
    rw (part_cons b at 1 (omega arith), part_cons b (suc at) 0 (omega arith)) (rw add-one (omega arith))
