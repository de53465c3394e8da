-- What evaluation unfolds: a proof that names `computes` computes with all of these.
use Rattle.free_slots.specs.Free.{free_file, free_link, free_stream}

unfoldable pub computes : Unit {0}
unfolding free_file free_link free_stream
computes = tt
