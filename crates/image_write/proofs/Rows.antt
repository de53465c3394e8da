-- Rows of blocks: how many a row takes, and a loop that writes one after another.
use Prim.Native.Nat.{◌%◌}
use borrow.Author.Tests.{leb-true}
use lib.{Dec.leb, ListN.length-append, Seq.{take_at, drop_at, drop-drop}}
use mathlib.Core.List.{append_assoc, append-nil}
use native.Mathlib.Nat.{add-zero, mod-add-div}
use Rattle.base.{specs.Base.{ℕ, zero, suc, ◌+◌, ◌-◌, ◌*◌, ◌≤◌, ◌<◌, ◌≡◌, true, false, ◌&&◌, List, ◌++◌, length, take, drop, concluded, refuse_if, ◌>>◌, ◌>>=◌, refused_reply, done, FileCorruptError, InvalidParameter}, proofs.Laws.{sym, ◌∙◌, ap, arith, and_left, and_right, eqb-true, length-drop, drop_of_length-le}}
use Rattle.audit.specs.Sound.{sound_bytes}
use Rattle.image.specs.{Blocks.{block_size, image_blocks, block_of, blocks_of, image_part, without_opens}, Image.{whole_blocks, blocks_in, checked_row, write_image}}
use Rattle.layout.specs.Layout.{encode, decode}

-- a row that is whole blocks of the image from block `first` on
pub record Room (first long : ℕ) : Type 0 where
  pub whole : long ≡ block_size * blocks_in long
  pub last : first + blocks_in long ≤ image_blocks

pub room : (first long : ℕ) → (whole_blocks long && leb (first + blocks_in long) image_blocks) ≡ true → Room first long
unfolding whole_blocks
room first long h =
    let whole = eqb-true (long % block_size) 0 (and_left _ _ h) in
    record {
      whole = omega (arith, mod-add-div long block_size);
      last = leb-true (first + blocks_in long) image_blocks (and_right (whole_blocks long) _ h);
    }

-- one block more at the end
blocks_next : (bs : List ℕ) (n k : ℕ) → blocks_of bs n (suc k) ≡ blocks_of bs n k ++ block_of bs (n + k)
unfolding blocks_of
blocks_next bs n zero = rw add-zero (append-nil (block_of bs n))
blocks_next bs n (suc k) =
    let e : suc n + k ≡ n + suc k = omega arith in
    ap (λ (l : List ℕ). block_of bs n ++ l) (blocks_next bs (suc n) k ∙ rw e)
    ∙ sym (append_assoc (block_of bs n) (blocks_of bs (suc n) k) (block_of bs (n + suc k)))

-- a loop has written the blocks from `first` up to n, and stands at the place `at` of the row
pub record Writing (bs : List ℕ) (first : ℕ) (l row : List ℕ) (n at : ℕ) : Type 0 where
  pub from : first ≤ n
  pub stands : at ≡ block_size * (n - first)
  pub within : at ≤ length l
  pub long : length (blocks_of bs first (n - first)) ≡ at
  pub is : row ≡ blocks_of bs first (n - first) ++ drop at l

pub writing_begins : (bs : List ℕ) (first : ℕ) (l : List ℕ) → Writing bs first l l first 0
unfolding blocks_of
writing_begins bs first l =
    let none : first - first ≡ 0 = omega arith in
    record { from = omega arith; stands = omega arith; within = omega arith; long = rw none; is = rw none }

-- it leaves the row's length
pub writing-long : {bs l row : List ℕ} {first n at : ℕ} → Writing bs first l row n at → length row ≡ length l
writing-long {bs} {l} {row} {first} {n} {at} w =
    let b = w.long in
    let h = w.within in
    rw w.is (simp (length-append, length-drop) (omega arith))

module _ {bs l row : List ℕ} {first n at : ℕ} (room : Room first (length l)) (w : Writing bs first l row n at) where
  -- before the end there is room for a block, and the image has one more
  pub next_room : at < length l → at + block_size ≤ length l
  next_room h = omega (arith, room.whole, w.stands)

  pub next_block : at < length l → n < image_blocks
  next_block h = omega (arith, room.whole, room.last, w.stands, w.from)

  pub writing_turn : {ys : List ℕ} (k : ℕ) → at < length l → k ≡ block_size → length ys ≡ block_size → ys ≡ block_of bs n
      → Writing bs first l (take at row ++ (ys ++ drop k (drop at row))) (n + 1) (at + block_size)
  writing_turn {ys} k h e size is =
      let i = n - first in
      let xs = blocks_of bs first i in
      let one : n + 1 - first ≡ suc i = omega (arith, w.from) in
      let more : blocks_of bs first (suc i) ≡ xs ++ ys =
      blocks_next bs first i ∙ ap (λ (l : List ℕ). xs ++ l) (ap (block_of bs) (let s : first + i ≡ n = omega (arith, w.from) in s) ∙ sym is) in
      record {
        from = omega (arith, w.from);
        stands = omega (arith, w.stands, w.from);
        within = next_room h;
        long = rw (one, more, length-append) (omega (arith, w.long));
        is =
            rw (w.is, take_at xs (drop at l) at w.long, drop_at xs (drop at l) at w.long, one, more, e, drop-drop)
            (sym (append_assoc xs ys (drop (at + block_size) l)));
      }

  pub writing_ends : length l ≤ at → row ≡ blocks_of bs first (blocks_in (length l))
  writing_ends h =
      let all : n - first ≡ blocks_in (length l) = omega (arith, room.whole, w.stands, w.within) in
      w.is ∙ rw (drop_of_length-le l {i = at} h) (append-nil (blocks_of bs first (n - first)) ∙ ap (blocks_of bs first) all)

-- the definition by its cases
module _ (tables : List ℕ) (first : ℕ) (row : List ℕ) where
  pub unsound : sound_bytes tables ≡ false → write_image tables first row ≡ record { reply = refused_reply FileCorruptError; state = row }
  unfolding write_image concluded refuse_if ◌>>◌
  unsound s = rw s

  module _ (sound : sound_bytes tables ≡ true) where
    pub no_room : (whole_blocks (length row) && leb (first + blocks_in (length row)) image_blocks) ≡ false
        → write_image tables first row ≡ record { reply = refused_reply InvalidParameter; state = row }
    unfolding write_image checked_row concluded refuse_if ◌>>◌ ◌>>=◌
    no_room e = rw (sound, e)

    pub filled : (whole_blocks (length row) && leb (first + blocks_in (length row)) image_blocks) ≡ true
        → write_image tables first row ≡ done (blocks_of (encode (without_opens (decode tables))) first (blocks_in (length row)))
    unfolding write_image checked_row image_part concluded refuse_if ◌>>◌ ◌>>=◌
    filled e = rw (sound, e)
