-- What evaluation unfolds: a proof that names `computes` computes with all of these.
use Rattle.tables.specs.Tables.{file_at, link_at, stream_at, row_at, live, any_on_file, any_on_stream}

unfoldable pub computes : Unit {0}
unfolding file_at link_at stream_at row_at live any_on_file any_on_stream
computes = tt
