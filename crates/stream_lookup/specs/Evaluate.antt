-- What evaluation unfolds: a proof that names `computes` computes with all of these.
use Rattle.stream_lookup.specs.StreamLookup.{stream_matches, stream_number, find_stream}

unfoldable pub computes : Unit {0}
unfolding stream_matches stream_number find_stream
computes = tt
