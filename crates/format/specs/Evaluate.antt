-- What evaluation unfolds: a proof that names `computes` computes with all of these.
use Rattle.format.specs.{Format.{right_lengths, root_file, fresh_volume, fresh_tables, checked_masks, format}, Bytes.format_bytes}

unfoldable pub computes : Unit {0}
unfolding right_lengths root_file fresh_volume fresh_tables checked_masks format format_bytes
computes = tt
