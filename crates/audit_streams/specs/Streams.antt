-- What the functions below `streams_consistent` decide: of a slot against a stream, and of a file by how many streams were
-- counted.
use Rattle.std.specs.Prelude.{◌&&◌, ◌||◌}
use Rattle.base.specs.Base.{ℕ, Bool, not, List, eqb, get_or, is_used, is_directory, BareStream, bare_used, FileType, File}
use Rattle.consistency.specs.Good.{stream_names_differ}

-- slot q is free, or differs from s in file or name
unfoldable pub free_or_differs : BareStream → BareStream → Bool
free_or_differs s q = not (bare_used q) || stream_names_differ s q

-- a file of this type has the streams that it must have, if it has so many, and so many of them without a name
unfoldable pub has_streams : FileType → ℕ → ℕ → Bool
has_streams t every unnamed = not (is_used t) || (eqb unnamed 1 && (not (is_directory t) || eqb every 1))

-- file n, by tables that have both at its number
abbrev pub have_streams : List ℕ → List ℕ → ℕ → File → Bool
have_streams every unnamed n f = has_streams f.file_type (get_or every n 0) (get_or unnamed n 0)
