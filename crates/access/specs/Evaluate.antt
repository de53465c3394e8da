-- What evaluation unfolds: a proof that names `computes` computes with all of these.
use Rattle.access.specs.Access.{effective, need, access_from, access_rule, checked_access}

unfoldable pub computes : Unit {0}
unfolding effective need access_from access_rule checked_access
computes = tt
