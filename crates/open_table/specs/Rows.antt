-- The table of opens: the lowest free row (step 12), and the row of a handle (close).
use Rattle.std.specs.Prelude.{◌<◌, ◌≡◌, ◌&&◌, ◌⊎◌, MatchBool}
use Rattle.base.specs.Base.{ℕ, Bool, true, false, List, Option, length, get_or, eqb, first_free, open_used, zero_open, Handle, Open}

abbrev pub free_row : List Open → Option ℕ
free_row os = first_free open_used 0 os

-- an open that has the handle (close)
unfoldable pub has_handle : Handle → Open → Bool
has_handle h o = open_used o && eqb o.handle.0 h.0

-- whether some row that is asked for has an open, where `asked i b` says that row i answers b
pub record HasOpen (asked : ℕ → Bool → Type 0) (os : List Open) (r : Bool) : Type 0 where
  pub is :
      MatchBool r ((i : ℕ) × (i < length os) × asked i true × (open_used (get_or os i zero_open) ≡ true))
      ((i : ℕ) → i < length os → asked i false ⊎ (open_used (get_or os i zero_open) ≡ false))
