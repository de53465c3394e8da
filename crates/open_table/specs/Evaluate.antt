-- What evaluation unfolds: a proof that names `computes` computes with all of these.
use Rattle.open_table.specs.Rows.{has_handle}

unfoldable pub computes : Unit {0}
unfolding has_handle
computes = tt
