-- What evaluation unfolds: a proof that names `computes` computes with all of these.
use Rattle.units.specs.Units.{upper, folded, equal_units}

unfoldable pub computes : Unit {0}
unfolding upper folded equal_units
computes = tt
