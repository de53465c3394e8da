-- What evaluation unfolds: a proof that names `computes` computes with all of these.
use Rattle.stored_names.specs.StoredNames.{units, well_stored}

unfoldable pub computes : Unit {0}
unfolding units well_stored
computes = tt
