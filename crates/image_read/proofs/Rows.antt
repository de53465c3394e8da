-- A row read, by what the code has tested.
use Prim.Native.Nat.{◌%◌}
use mathlib.Core.Bool.{and-false}
use borrow.Author.Tests.{leb-true}
use Rattle.base.{specs.Base.{ℕ, ◌≤◌, ◌<◌, ◌≡◌, List, length, leb, passed, refuse, refuse_if, ◌>>◌, FileCorruptError}, proofs.Laws.{eq-eqb, ne_eqb, lt-leb, not-false, and_left}}
use Rattle.image.specs.{Blocks.{block_size, image_blocks}, Image.{Reading, whole_blocks, blocks_in, read_blocks, read_row}}
use Rattle.image_laws.proofs.{Chains.test_passed, Reading.{row_blocks, row_within}}

module _ (s : Reading) (row : List ℕ) where
  pub row_over : image_blocks < s.reader → read_row s row ≡ refuse FileCorruptError
  unfolding read_row refuse_if ◌>>◌
  row_over h = rw (lt-leb s.reader image_blocks h)

  pub row_cut : (length row % block_size ≡ 0 → ⊥) → read_row s row ≡ refuse FileCorruptError
  unfolding read_row whole_blocks refuse_if ◌>>◌
  row_cut h = rw (ne_eqb (length row % block_size) 0 h, and-false)

  pub row_whole : s.reader ≤ image_blocks → length row % block_size ≡ 0 → read_row s row ≡ read_blocks s (blocks_in (length row)) row
  unfolding whole_blocks
  row_whole l e = row_blocks s row l (eq-eqb (length row % block_size) 0 e)

  -- no row ends past the last block
  pub row_ends : (t : Reading) → read_row s row ≡ passed t → t.reader ≤ image_blocks
  unfolding read_row
  row_ends t h =
      row_within s row t
      (leb-true s.reader image_blocks (and_left (leb s.reader image_blocks) (whole_blocks (length row)) (not-false _ (test_passed _ FileCorruptError _ h).0))) h
