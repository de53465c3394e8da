-- Which names are valid (step 4).
use Rattle.std.specs.Prelude.{◌&&◌, ◌∷◌}
use Rattle.base.specs.Base.{ℕ, Bool, not, List, [], leb, length, all, is_empty, one_of, same}
use Rattle.units.specs.Units.{backslash, colon, dot, forbidden}
use Rattle.names.specs.declared.NameKind.{NameKind, TheVariants.{FileName, StreamName}}

-- the lowest unit of a name: control units, 1 to 31, stand in stream names alone, and unit 0 in none
unfoldable pub lowest_unit : NameKind → ℕ
lowest_unit FileName = 0x20
lowest_unit StreamName = 0x1

-- a unit that may stand in a name: not below the lowest, none of the forbidden signs, no separator
unfoldable pub valid_unit : NameKind → ℕ → Bool
valid_unit k u = leb (lowest_unit k) u && not (one_of u forbidden) && not (one_of u (backslash ∷ colon ∷ []))

-- the units of a name: up to the limit, each valid
unfoldable pub valid_units : NameKind → ℕ → List ℕ → Bool
valid_units k limit n = leb (length n) limit && all (valid_unit k) n

-- a file name: not empty, neither `.` nor `..`, its units valid
unfoldable pub valid_file_name : ℕ → List ℕ → Bool
valid_file_name limit n =
    not (is_empty n) && not (same n (dot ∷ [])) && not (same n (dot ∷ dot ∷ [])) && valid_units FileName limit n

-- a stream name: its units valid; it may be empty
unfoldable pub valid_stream_name : ℕ → List ℕ → Bool
valid_stream_name limit n = valid_units StreamName limit n
