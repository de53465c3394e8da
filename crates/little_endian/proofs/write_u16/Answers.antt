-- What is above the lowest byte of 16 bits is one byte.
use Rattle.std.proofs.Common.{arith, ◌/◌, ◌<◌}
use lib.ListN.{length-set}
use native.Mathlib.{Nat.mod-eq_of_lt, Numerals.add-one}
use Rattle.little_endian.proofs.{Numbers.rest_lt}
use Rattle.little_endian.specs.LittleEndian.{to_bytes}
use Rattle.little_endian.proofs.write_u16.Goals as goal

pub returns : goal.returns
unfolding to_bytes
returns c =
    let x = c.args.x in
    let h : x / 256 < 256 = rest_lt 1 x (omega arith) in
    record { is = rw (mod-eq_of_lt h, add-one); kept = simp length-set }
