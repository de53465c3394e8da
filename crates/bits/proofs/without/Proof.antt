-- `bits::without` meets its contract: the bits taken away are no more than the number.
use lib.Bits.{and_le_l}
use mathlib.Core.Path.{refl}
use Rattle.bits.proofs.without.Statement.{statement}
use Rattle.bits.specs.Bits.{without}
use Rattle.bits.proofs.without.Tie as tie

sub-result : tie.Need-overflow_sub-result
sub-result c = and_le_l c.args.a c.args.m

returns : tie.Need-returns
unfolding without
returns c = refl

pub without_spec : {M : Type 1} → statement M
without_spec = tie.close (tie.spec sub-result returns)
