-- Format over the lent bytes.
use Rattle.std.specs.Prelude.{◌≡◌}
use Rattle.base.specs.Base.{ℕ, Bool, true, not, List, Tables, eqb, length, passed, ◌>>◌, refuse_if, Step, done, concluded, FileCorruptError}
use Rattle.layout.specs.Layout.{tables_size, encode, decode, stands_for_tables}
use Rattle.format.specs.Format.{fresh_tables, checked_masks}

-- format of lent bytes: of as many as the tables have, and then the masks decide. A refusal leaves every byte
unfoldable pub format_bytes : List ℕ → List ℕ → Bool → Step (List ℕ)
format_bytes bs masks read_only =
    concluded bs do
      refuse_if (not (eqb (length bs) tables_size)) FileCorruptError
      checked_masks masks
      passed (done (encode (fresh_tables masks read_only)))

-- bytes that stand for tables, and for these: of bytes below 256 there is one such row, what `encode` gives
pub record StandFor (bs : List ℕ) (t : Tables) : Type 0 where
  pub is : decode bs ≡ t
  pub stands : stands_for_tables bs ≡ true
