-- What evaluation unfolds: a proof that names `computes` computes with all of these.
use Rattle.names.specs.Names.{lowest_unit, valid_unit, valid_units, valid_file_name, valid_stream_name}

unfoldable pub computes : Unit {0}
unfolding lowest_unit valid_unit valid_units valid_file_name valid_stream_name
computes = tt
