-- What evaluation unfolds: a proof that names `computes` computes with all of these.
use Rattle.records.specs.{Numbers.{status_number, action_number, seen}, Slots.{is_used, is_directory, is_data, file_used, link_used, stream_used, open_used, mask_of}, Namespace.{bare_used, bare_at, bare, with_counts, namespace}, Checked.{◌>>=◌, ◌>>◌, refuse_if, some_or, as_option, as_checked}, State.concluded}

unfoldable pub computes : Unit {0}
unfolding status_number action_number seen is_used is_directory is_data file_used link_used stream_used open_used mask_of
    bare_used bare_at bare with_counts namespace ◌>>=◌ ◌>>◌ refuse_if some_or as_option as_checked concluded
computes = tt
