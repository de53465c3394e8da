-- What evaluation unfolds: a proof that names `computes` computes with all of these.
use Rattle.components.specs.Components.{start_part, split, components}

unfoldable pub computes : Unit {0}
unfolding start_part split components
computes = tt
