-- What evaluation unfolds: a proof that names `computes` computes with all of these.
use Rattle.paths.specs.Paths.{ends_in, leaf_of, valid_leaf, checked_leaf, parse_components, parse_path}

unfoldable pub computes : Unit {0}
unfolding ends_in leaf_of valid_leaf checked_leaf parse_components parse_path
computes = tt
