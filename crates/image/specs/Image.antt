-- Writing the image and reading it back, any number of blocks at a time (request L4).
use Rattle.std.specs.Prelude.{◌/◌, ◌%◌, ◌+◌, ◌&&◌, ◌∷◌}
use Rattle.std.proofs.lemmas.List.Edits.{sets}
use Rattle.base.specs.Base.{ℕ, zero, suc, Bool, true, false, not, any, List, [], eqb, leb, length, take, drop, replicate, open_used, Checked, passed, refuse_if, ◌>>◌, ◌>>=◌, refused_reply, Step, done, concluded, FileCorruptError, InvalidParameter}
use Rattle.audit.specs.Sound.{sound_bytes}
use Rattle.layout.specs.Layout.{tables_size, decode}
use Rattle.image.specs.{Blocks.{block_size, image_blocks, record_of, place_of, image_part}, Alone.{record_in, block_alone}}
use Rattle.image.specs.declared.{BlockRecord.{BlockRecord, TheVariants.{Header, FileSlot, LinkSlot, StreamSlot, Past}}}

-- whether a row of so many bytes is whole blocks, and how many
unfoldable pub whole_blocks : ℕ → Bool
whole_blocks long = eqb (long % block_size) 0

abbrev pub blocks_in : ℕ → ℕ
blocks_in long = long / block_size

-- how many blocks of the image a row of so many bytes takes, from block `first` on
unfoldable pub checked_row : ℕ → ℕ → Checked ℕ
checked_row first long = do
  refuse_if (not (whole_blocks long && leb (first + blocks_in long) image_blocks)) InvalidParameter
  passed (blocks_in long)

-- blocks of the image into a row. Unsound tables are refused first, then a row that isn't whole blocks of the image; a refusal
-- leaves the row
unfoldable pub write_image : List ℕ → ℕ → List ℕ → Step (List ℕ)
write_image tables first row =
    concluded row do
      refuse_if (not (sound_bytes tables)) FileCorruptError
      k ← checked_row first (length row)
      passed (done (image_part (decode tables) first k))

-- what reading has so far: the second set of tables, in bytes, and the number of the next block
pub record Reading : Type 0 where
  pub spare : List ℕ
  pub reader : ℕ

-- a second set that is all zero, and block 0 comes next
abbrev pub unread : Reading
unread = record { spare = replicate tables_size 0; reader = 0 }

-- block 0 clears the second set, opens included; each other block leaves all but its record
unfoldable pub spare_for : BlockRecord → List ℕ → List ℕ
spare_for Header spare = replicate tables_size 0
spare_for (FileSlot k) spare = spare
spare_for (LinkSlot k) spare = spare
spare_for (StreamSlot k) spare = spare
spare_for Past spare = spare

unfoldable pub put_block : ℕ → List ℕ → List ℕ → List ℕ
put_block n b spare = let r = record_of n in sets (spare_for r spare) (place_of r) (record_in r b)

-- one block, refused where it shows by itself that no image has it there; past the last block none is right
unfoldable pub read_block : Reading → List ℕ → Checked Reading
read_block s b = do
  refuse_if (not (block_alone s.reader b)) FileCorruptError
  passed (record { spare = put_block s.reader b s.spare; reader = suc s.reader })

-- k blocks of a row
unfoldable pub read_blocks : Reading → ℕ → List ℕ → Checked Reading
read_blocks s zero row = passed s
read_blocks s (suc k) row = read_block s (take block_size row) >>= (λ next. read_blocks next k (drop block_size row))

-- a row read: a number that no reading gives and a row that isn't whole blocks are a cut image
unfoldable pub read_row : Reading → List ℕ → Checked Reading
read_row s row = do
  refuse_if (not (leb s.reader image_blocks && whole_blocks (length row))) FileCorruptError
  read_blocks s (blocks_in (length row)) row

-- rows read in turn: the first that is refused ends it
unfoldable pub read_rows : Reading → List (List ℕ) → Checked Reading
read_rows s [] = passed s
read_rows s (row ∷ rows) = read_row s row >>= (λ next. read_rows next rows)

-- reading needs only the right length of the second set: with another nothing moves. A refused row clears it
unfoldable pub read_image : Reading → List ℕ → Step Reading
read_image s row =
    elim (eqb (length s.spare) tables_size) [
      | true ↦ concluded unread (read_row s row >>= (λ next. passed (done next)))
      | false ↦ record { reply = refused_reply FileCorruptError; state = s }
    ]

-- the tables, and what reading has
pub record Restoring : Type 0 where
  pub tables : List ℕ
  pub reading : Reading

-- the second set holds tables that an image can have: consistent, and without opens
unfoldable pub restorable : List ℕ → Bool
restorable spare = sound_bytes spare && not (any open_used (decode spare).opens.rows)

-- all blocks were read and what they hold is sound together
unfoldable pub checked_image : Reading → Checked (List ℕ)
checked_image s = do
  refuse_if (not (eqb s.reader image_blocks && restorable s.spare)) FileCorruptError
  passed s.spare

-- the closing call: exactly after the last block the second set is copied to the tables, whatever they held. A refusal leaves the
-- tables and clears the second set. With a wrong length of either nothing moves. Block 0 comes next
unfoldable pub finish_image : Restoring → Step Restoring
finish_image r =
    elim (eqb (length r.tables) tables_size && eqb (length r.reading.spare) tables_size) [
      | true ↦ concluded (record { tables = r.tables; reading = unread })
          (checked_image r.reading >>= (λ bs. passed (done (record { tables = bs; reading = record { spare = bs; reader = 0 } }))))
      | false ↦ record { reply = refused_reply FileCorruptError; state = r }
    ]
