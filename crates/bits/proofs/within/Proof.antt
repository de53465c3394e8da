-- `bits::within` meets its contract: the code is the definition.
use mathlib.Core.Path.{refl}
use Rattle.bits.proofs.within.Statement.{statement}
use Rattle.bits.specs.Bits.{within}
use Rattle.bits.proofs.within.Tie as tie

returns : tie.Need-returns
unfolding within
returns c = refl

pub within_spec : {M : Type 1} → statement M
within_spec = tie.close (tie.spec returns)
