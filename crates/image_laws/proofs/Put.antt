-- A block put into the second set: its record stands there, what other blocks hold and the opens' bytes stay.
use native.Mathlib.Nat.{sub-zero, zero-sub, suc-sub-suc}
use lib.{ListN.length-append, Seq.{sets, sets-eq, length-sets, take_at, length-take-le}}
use Rattle.base.{specs.Base.{ℕ, zero, suc, ◌+◌, ◌-◌, ◌≤◌, ◌<◌, ◌≡◌, true, List, [], ◌∷◌, ◌++◌, length, set, take, drop, replicate}, proofs.Laws.{refl, ◌∙◌, ap, arith, length-take, length-replicate, and_left, same_is}}
use Rattle.codecs.proofs.{Bytes.{take_bytes, drop_bytes}, Fields.part_length}
use Rattle.image.{specs.{Blocks.{block_size, number_size, block, record_of, place_of, size_of, preface, record_at}, Alone.{record_in, well_formed, record_alone, block_alone}, Image.{Reading, unread, spare_for, put_block, read_block, read_blocks}, declared.BlockRecord.{BlockRecord, TheVariants.{Header, FileSlot, LinkSlot, StreamSlot, Past}}}, proofs.Records.{header_record}}
use Rattle.layout.specs.Layout.{tables_size, opens_at}
use Rattle.little_endian.{specs.LittleEndian.{Bytes}, proofs.Parts.{take_sets_past, drop_sets_within}}
use Rattle.image_laws.proofs.{Places.{each_record, reached, placed, record_ends}, Blocks.{record_fits, block-length}, Reading.{alone_within}}

-- what was written, and what stands before
take_sets : (l : List ℕ) (at : ℕ) (xs : List ℕ) → at + length xs ≤ length l → take (at + length xs) (sets l at xs) ≡ take at l ++ xs
take_sets l at xs h =
    ap (take (at + length xs)) (sets-eq xs l at h)
    ∙ take_at (take at l ++ xs) (drop (at + length xs) l) (at + length xs)
    (rw (length-append, length-take-le at l (omega arith)))

drop-replicate : (n m x : ℕ) → drop n (replicate m x) ≡ replicate (m - n) x
drop-replicate zero m x = rw sub-zero
drop-replicate (suc n) zero x = rw zero-sub
drop-replicate (suc n) (suc m) x = rw suc-sub-suc (drop-replicate n m x)

set_bytes : (l : List ℕ) (i x : ℕ) → Bytes l → x < 256 → Bytes (set l i x)
set_bytes [] i x h b j = h j
set_bytes (y ∷ l) zero x h b zero = b
set_bytes (y ∷ l) zero x h b (suc j) = h (suc j)
set_bytes (y ∷ l) (suc i) x h b zero = h 0
set_bytes (y ∷ l) (suc i) x h b (suc j) = set_bytes l i x (λ k. h (suc k)) b j

sets_bytes : (l : List ℕ) (at : ℕ) (xs : List ℕ) → Bytes l → Bytes xs → Bytes (sets l at xs)
sets_bytes l at [] h b = h
sets_bytes l at (x ∷ xs) h b = sets_bytes (set l at x) (suc at) xs (set_bytes l at x h (b 0)) (λ i. b (suc i))

pub zero_bytes : (n : ℕ) → Bytes (replicate n 0)
zero_bytes zero i = omega arith
zero_bytes (suc n) zero = omega arith
zero_bytes (suc n) (suc i) = zero_bytes n i

-- as many bytes as the tables have, and none for opens
pub record Unopened (spare : List ℕ) : Type 0 where
  pub long : length spare ≡ tables_size
  pub opens : drop opens_at spare ≡ replicate (tables_size - opens_at) 0

pub zeros_unopened : Unopened (replicate tables_size 0)
zeros_unopened = record { long = length-replicate {A = ℕ} tables_size 0; opens = drop-replicate opens_at tables_size 0 }

-- what the second set is for a block's record
module _ (P : List ℕ → Type 0) (zeros : P (replicate tables_size 0)) (spare : List ℕ) (given : P spare) where
  pub spare_for_lem : (r : BlockRecord) → P (spare_for r spare)
  unfolding spare_for
  spare_for_lem Header = zeros
  spare_for_lem (FileSlot k) = given
  spare_for_lem (LinkSlot k) = given
  spare_for_lem (StreamSlot k) = given
  spare_for_lem Past = given

-- a block that shows by itself that it is right
module _ (n : ℕ) (b : List ℕ) (h : block_alone n b ≡ true) where
  pub alone_spelled : b ≡ block n (preface (record_of n) ++ record_in (record_of n) b)
  unfolding block_alone well_formed
  alone_spelled = same_is b _ (and_left (well_formed n b) (record_alone (record_of n) (record_in (record_of n) b)) h)

  alone_length : length b ≡ block_size
  unfolding record_in
  alone_length =
      ap length alone_spelled
      ∙ block-length n _ (simp (length-append, length-take) (omega (arith, record_fits (record_of n))))

  pub record_long : length (record_in (record_of n) b) ≡ size_of (record_of n)
  unfolding record_in record_at
  record_long =
      part_length b (number_size + length (preface (record_of n))) (size_of (record_of n)) (omega (arith, alone_length, record_fits (record_of n)))

  -- put into a second set
  module _ (spare : List ℕ) (long : length spare ≡ tables_size) where
    abbrev before : List ℕ
    before = spare_for (record_of n) spare

    before_length : length before ≡ tables_size
    before_length = spare_for_lem (λ l. length l ≡ tables_size) (length-replicate {A = ℕ} tables_size 0) spare long (record_of n)

    before_reached : take (reached n) before ≡ take (reached n) spare
    unfolding spare_for reached
    before_reached =
        each_record (λ r. take (reached n) (spare_for r spare) ≡ take (reached n) spare) n (alone_within n b h) (λ e. rw e) (λ k l e. refl)
        (λ k l e. refl) (λ k l e. refl)

    pub put_length : length (put_block n b spare) ≡ tables_size
    unfolding put_block
    put_length = length-sets before (place_of (record_of n)) (record_in (record_of n) b) ∙ before_length

    fits : place_of (record_of n) + length (record_in (record_of n) b) ≤ opens_at
    fits = rw record_long (record_ends n (alone_within n b h))

    -- the record stands after what the blocks before hold
    pub put_reaches : take (reached (suc n)) (put_block n b spare) ≡ take (reached n) spare ++ record_in (record_of n) b
    unfolding put_block reached
    put_reaches =
        rw (← before_reached, ← placed n (alone_within n b h), ← record_long)
        (take_sets before (place_of (record_of n)) (record_in (record_of n) b) (omega (arith, before_length, fits)))

    pub put_keeps : take (reached n) (put_block n b spare) ≡ take (reached n) spare
    unfolding put_block
    put_keeps =
        take_sets_past (reached n) before (place_of (record_of n)) (record_in (record_of n) b) (omega (arith, placed n (alone_within n b h)))
        ∙ before_reached

pub put_unopened : (n : ℕ) (b : List ℕ) → block_alone n b ≡ true → (spare : List ℕ) → Unopened spare → Unopened (put_block n b spare)
unfolding put_block
put_unopened n b h spare u =
    let before = spare_for_lem Unopened zeros_unopened spare u (record_of n) in
    record {
      long = put_length n b h spare u.long;
      opens =
          drop_sets_within opens_at (spare_for (record_of n) spare) (place_of (record_of n)) (record_in (record_of n) b) (fits n b h spare u.long)
          ∙ before.opens;
    }

pub put_bytes : (n : ℕ) (b spare : List ℕ) → Bytes b → Bytes spare → Bytes (put_block n b spare)
unfolding put_block record_in
put_bytes n b spare hb hs =
    sets_bytes (spare_for (record_of n) spare) (place_of (record_of n)) (record_in (record_of n) b)
    (spare_for_lem Bytes (zero_bytes tables_size) spare hs (record_of n)) (take_bytes (size_of (record_of n)) _ (drop_bytes (record_at (record_of n)) b hb))

-- block 0 is put into zeros, whatever the second set held
pub from_first : (s : Reading) (k : ℕ) (row : List ℕ) → s.reader ≡ 0 → read_blocks s (suc k) row ≡ read_blocks unread (suc k) row
unfolding read_blocks read_block put_block spare_for
from_first s k row e = rw (e, header_record 0 refl)
