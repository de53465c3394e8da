-- What evaluation unfolds: a proof that names `computes` computes with all of these.
use Rattle.little_endian.specs.LittleEndian.{from_bytes, to_bytes}

unfoldable pub computes : Unit {0}
unfolding from_bytes to_bytes
computes = tt
