-- The round trip of the image, and that there is no second spelling (request L4).
use Rattle.std.specs.Prelude.{◌+◌, ◌≡◌, ◌∷◌, ◌++◌}
use Rattle.base.specs.Base.{ℕ, true, false, List, [], length, all, any, open_used, passed, done}
use Rattle.audit.specs.Sound.{sound_bytes}
use Rattle.image.specs.{Blocks.{image_blocks, image, without_opens}, Image.{Reading, Restoring, blocks_in, whole_blocks, write_image, read_rows, finish_image}}
use Rattle.layout.specs.Layout.{tables_size, encode, decode}
use Rattle.little_endian.specs.LittleEndian.{Bytes}

-- rows one after another
unfoldable pub joined : List (List ℕ) → List ℕ
joined [] = []
joined (row ∷ rows) = row ++ joined rows

-- rows that calls of write filled in turn, the first from this block on
pub data Written (tables : List ℕ) : ℕ → List (List ℕ) → Type 0 where
  no_row : {n : ℕ} → Written tables n []
  next_row : {n : ℕ} (before : List ℕ) {row : List ℕ} {rows : List (List ℕ)} → write_image tables n before ≡ done row
      → Written tables (n + blocks_in (length row)) rows → Written tables n (row ∷ rows)

-- rows of the whole image, written in any cut and joined, are the image of the tables
abbrev pub WrittenInTurn : Type 0
WrittenInTurn =
    (tables : List ℕ) (rows : List (List ℕ)) → Written tables 0 rows → blocks_in (length (joined rows)) ≡ image_blocks
    → joined rows ≡ image (decode tables)

-- the image of sound tables, read back in any cut into rows of whole blocks: the closing call copies the tables without their opens,
-- whatever the second set and the tables held
pub record ReadBack (tables : List ℕ) (s : Reading) (rows : List (List ℕ)) : Type 0 where
  pub read : read_rows s rows ≡ passed (record { spare = encode (without_opens (decode tables)); reader = image_blocks })
  pub finished : (before : List ℕ) → length before ≡ tables_size
      → finish_image (record { tables = before; reading = record { spare = encode (without_opens (decode tables)); reader = image_blocks } })
      ≡ done
      (record {
        tables = encode (without_opens (decode tables));
        reading = record { spare = encode (without_opens (decode tables)); reader = 0 };
      })

abbrev pub RoundTrip : Type 0
RoundTrip =
    (tables : List ℕ) → Bytes tables → sound_bytes tables ≡ true
    → (rows : List (List ℕ)) → joined rows ≡ image (decode tables) → all (λ row. whole_blocks (length row)) rows ≡ true
    → (s : Reading) → s.reader ≡ 0 → length s.spare ≡ tables_size
    → ReadBack tables s rows

-- tables without opens come back the same, byte for byte
abbrev pub SameWithoutOpens : Type 0
SameWithoutOpens =
    (tables : List ℕ) → Bytes tables → sound_bytes tables ≡ true → any open_used (decode tables).opens.rows ≡ false
    → encode (without_opens (decode tables)) ≡ tables

-- bytes that a reading from block 0 and the closing call accepted are the image of the tables that they gave
abbrev pub NoSecondSpelling : Type 0
NoSecondSpelling =
    (s t : Reading) (rows : List (List ℕ)) → Bytes (joined rows) → s.reader ≡ 0 → length s.spare ≡ tables_size
    → read_rows s rows ≡ passed t
    → (before : List ℕ) (r : Restoring) → finish_image (record { tables = before; reading = t }) ≡ done r
    → joined rows ≡ image (decode r.tables)
