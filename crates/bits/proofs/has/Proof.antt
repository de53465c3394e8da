-- `bits::has` meets its contract: the code is the definition.
use mathlib.Core.Path.{refl}
use Rattle.bits.proofs.has.Statement.{statement}
use Rattle.bits.specs.Bits.{has}
use Rattle.bits.proofs.has.Tie as tie

returns : tie.Need-returns
unfolding has
returns c = refl

pub has_spec : {M : Type 1} → statement M
has_spec = tie.close (tie.spec returns)
