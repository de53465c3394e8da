-- What evaluation unfolds: a proof that names `computes` computes with all of these.
use Rattle.bits.specs.Bits.{within, has, without}

unfoldable pub computes : Unit {0}
unfolding within has without
computes = tt
