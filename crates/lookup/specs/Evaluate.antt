-- What evaluation unfolds: a proof that names `computes` computes with all of these.
use Rattle.lookup.specs.Lookup.{link_matches, link_number, find_link, step_into, descend, place_in, locate_leaf, locate}

unfoldable pub computes : Unit {0}
unfolding link_matches link_number find_link step_into descend place_in locate_leaf locate
computes = tt
