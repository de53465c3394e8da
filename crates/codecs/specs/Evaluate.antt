-- What evaluation unfolds: a proof that names `computes` computes with all of these.
use Rattle.codecs.specs.Codec.{encode_row, decode_row, row_stands}

unfoldable pub computes : Unit {0}
unfolding encode_row decode_row row_stands
computes = tt
