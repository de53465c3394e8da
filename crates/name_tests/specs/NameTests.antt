-- What is asked of a name in a used slot: it is well stored, and its units are a valid name.
use Rattle.std.specs.Prelude.{◌&&◌, ◌||◌}
use Rattle.base.specs.Base.{ℕ, Bool, List, eqb, leb, length, file_name_limit, stream_name_limit}
use Rattle.names.specs.{Names.{valid_unit, valid_file_name, valid_stream_name}, declared.NameKind.NameKind}
use Rattle.stored_names.specs.StoredNames.{units, well_stored}

unfoldable pub good_file_name : List ℕ → Bool
good_file_name n = well_stored file_name_limit n && valid_file_name file_name_limit (units n)

unfoldable pub good_stream_name : List ℕ → Bool
good_stream_name n = well_stored stream_name_limit n && valid_stream_name stream_name_limit (units n)

-- a name of no more places than a record has, with zeros after its units
abbrev pub fits_stored : List ℕ → Bool
fits_stored n = leb (length n) file_name_limit && well_stored (length n) n

-- a place of such a name
abbrev pub zero_or_valid : NameKind → ℕ → Bool
zero_or_valid k u = eqb u 0 || valid_unit k u
