-- UTF-16 units: the signs with a meaning, and comparison exactly or with a to z folded to A to Z (step 6).
use Rattle.std.specs.Prelude.{◌-◌, ◌&&◌, ◌∷◌}
use Rattle.base.specs.Base.{ℕ, Bool, cond, List, [], map, leb, same}

abbrev pub backslash : ℕ
backslash = 0x5C

abbrev pub colon : ℕ
colon = 0x3A

abbrev pub dot : ℕ
dot = 0x2E

-- `" * / < > ? |`, which stand in no name
abbrev pub forbidden : List ℕ
forbidden = 0x22 ∷ 0x2A ∷ 0x2F ∷ 0x3C ∷ 0x3E ∷ 0x3F ∷ 0x7C ∷ []

-- `$DATA`
abbrev pub data_type : List ℕ
data_type = 0x24 ∷ 0x44 ∷ 0x41 ∷ 0x54 ∷ 0x41 ∷ []

-- a to z as A to Z, every other unit as it is
unfoldable pub upper : ℕ → ℕ
upper u = cond (leb 0x61 u && leb u 0x7A) (u - 0x20) u

-- a unit as it is compared
unfoldable pub folded : Bool → ℕ → ℕ
folded fold u = cond fold (upper u) u

-- equal units, exactly or folded
unfoldable pub equal_units : Bool → List ℕ → List ℕ → Bool
equal_units fold a b = same (map (folded fold) a) (map (folded fold) b)
