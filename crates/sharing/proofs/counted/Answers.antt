-- One test for each kind.
use Rattle.sharing.specs.Sharing.{any_kind, holds, counted, access_bits}
use Rattle.sharing.proofs.counted.Goals as goal

pub returns : goal.returns
unfolding counted any_kind holds access_bits
returns c = rw (← c.has.ensures, ← c.has-2.ensures, ← c.has-3.ensures)
