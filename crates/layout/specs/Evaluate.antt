-- What evaluation unfolds: a proof that names `computes` computes with all of these.
use Rattle.layout.specs.{Kinds.{kind_of, kind_number, mark_of, mark_number}, Layout.{encode, decode, stands_for_tables}, Calls.on_bytes}
use Rattle.little_endian.specs.Evaluate as numbers
use Rattle.codecs.specs.Evaluate as codecs

unfoldable pub computes : Unit {0}
unfolding numbers.computes codecs.computes kind_of kind_number mark_of mark_number encode decode stands_for_tables on_bytes
computes = tt
