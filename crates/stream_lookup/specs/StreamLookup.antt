-- From a file and a name to a stream of the file (steps 10 and 11), matched as in step 6. The lowest matching slot wins.
use Rattle.std.specs.Prelude.{◌&&◌}
use Rattle.base.specs.Base.{ℕ, Bool, List, Option, none, some, eqb, first, Namespace, BareStream, bare_used, FileNo, StreamNo}
use Rattle.stored_names.specs.StoredNames.{units}
use Rattle.units.specs.Units.{equal_units}

-- a stream of the file whose name matches
unfoldable pub stream_matches : Bool → FileNo → List ℕ → BareStream → Bool
stream_matches fold file name s = bare_used s && eqb s.file.0 file.0 && equal_units fold (units s.name) name

unfoldable pub stream_number : Option ℕ → Option StreamNo
stream_number none = none
stream_number (some n) = some (record { 0 = n })

unfoldable pub find_stream : Namespace → Bool → FileNo → List ℕ → Option StreamNo
find_stream ns fold file name = stream_number (first (stream_matches fold file name) ns.streams)
