-- Bytes whose records each are right by themselves come back from their blocks.
use lib.{ListN.take-append-drop, Seq.{take_at, drop_at, take-add}}
use Rattle.base.{specs.Base.{ℕ, zero, suc, ◌+◌, ◌*◌, ◌≤◌, ◌<◌, ◌≡◌, true, List, ◌++◌, length, take, replicate, FileCorruptError, passed, file_slots, link_slots, stream_slots}, proofs.Laws.{refl, sym, ◌∙◌, ap, ap₂, arith, and_both, not_isn't, bind_of}}
use Rattle.image.specs.{Blocks.{block_size, image_blocks, record_of, place_of, size_of, block_of, blocks_of}, Alone.{record_alone, block_alone}, Image.{Reading, put_block, read_block, read_blocks, read_rows}}
use Rattle.layout.specs.Layout.{tables_size, opens_at}
use Rattle.little_endian.specs.LittleEndian.{part}
use Rattle.image_laws.proofs.{Places.{reached, placed, reached_all}, Blocks.{block_of-length, blocks_length, record_in_block, well_formed_lem}, Chains.test_passes, Reading.{Whole, blocks_whole, blocks_count, row_blocks, rows_joined}, Put.{Unopened, zeros_unopened, put_reaches, put_unopened, from_first}}
use Rattle.image_laws.specs.RoundTrip.{joined}

module _ (bs : List ℕ) (unopened : Unopened bs)
    (alone : (n : ℕ) → n < image_blocks → record_alone (record_of n) (part bs (place_of (record_of n)) (size_of (record_of n))) ≡ true) where
  -- a second set into which the first n blocks of these bytes were put
  record Agrees (n : ℕ) (spare : List ℕ) : Type 0 where
    pub rest : Unopened spare
    pub is : take (reached n) spare ≡ take (reached n) bs

  agrees_all : (spare : List ℕ) → Agrees image_blocks spare → spare ≡ bs
  agrees_all spare a =
      sym (take-append-drop opens_at spare)
      ∙ ap₂ (λ (x y : List ℕ). x ++ y) (rw reached_all at a.is) (a.rest.opens ∙ sym unopened.opens)
      ∙ take-append-drop opens_at bs

  module _ (n : ℕ) (h : n < image_blocks) where
    right_block : block_alone n (block_of bs n) ≡ true
    unfolding block_alone
    right_block = and_both (well_formed_lem bs unopened.long n h) (rw (record_in_block bs unopened.long n h) (alone n h))

    agrees_next : (spare : List ℕ) → Agrees n spare → Agrees (suc n) (put_block n (block_of bs n) spare)
    unfolding reached
    agrees_next spare a =
        record {
          rest = put_unopened n (block_of bs n) right_block spare a.rest;
          is =
              put_reaches n (block_of bs n) right_block spare a.rest.long
              ∙ ap₂ (λ (x y : List ℕ). x ++ y) a.is
              (record_in_block bs unopened.long n h ∙ ap (λ (at : ℕ). part bs at (size_of (record_of n))) (placed n h))
              ∙ sym (take-add (reached n) (size_of (record_of n)) bs);
        }

    reads_next : (spare : List ℕ)
        → read_block (record { spare = spare; reader = n }) (block_of bs n)
        ≡ passed (record { spare = put_block n (block_of bs n) spare; reader = suc n })
    unfolding read_block
    reads_next spare = test_passes FileCorruptError _ (not_isn't right_block)

  blocks_back : (k n : ℕ) (spare : List ℕ) → n + k ≡ image_blocks → Agrees n spare
      → read_blocks (record { spare = spare; reader = n }) k (blocks_of bs n k) ≡ passed (record { spare = bs; reader = image_blocks })
  unfolding read_blocks blocks_of
  blocks_back zero n spare e a =
      let m : n ≡ image_blocks = omega arith in
      let whole : Agrees image_blocks spare = rw m at a in
      rw (m, agrees_all spare whole)
  blocks_back (suc k) n spare e a =
      let b = block_of bs n in
      let rest = blocks_of bs (suc n) k in
      rw (take_at b rest block_size (block_of-length bs n))
      (bind_of _ (reads_next n (omega arith) spare)
      ∙ rw (drop_at b rest block_size (block_of-length bs n))
      (blocks_back k (suc n) (put_block n b spare) (omega arith) (agrees_next n (omega arith) spare a)))

  -- from any rows of whole blocks that are these, whatever the second set held
  pub rows_back : (rows : List (List ℕ)) → joined rows ≡ blocks_of bs 0 image_blocks → Whole rows → (s : Reading) → s.reader ≡ 0
      → read_rows s rows ≡ passed (record { spare = bs; reader = image_blocks })
  unfolding reached
  rows_back rows e w s first =
      let l : s.reader ≤ image_blocks = omega arith in
      let long : length (joined rows) ≡ block_size * image_blocks = ap length e ∙ blocks_length bs 0 image_blocks in
      sym (rows_joined s rows l w)
      ∙ row_blocks s (joined rows) l (blocks_whole image_blocks long)
      ∙ ap (λ (k : ℕ). read_blocks s k (joined rows)) (blocks_count image_blocks long)
      ∙ ap (read_blocks s image_blocks) e
      ∙ from_first s (file_slots + link_slots + stream_slots) (blocks_of bs 0 image_blocks) first
      ∙ blocks_back image_blocks 0 (replicate tables_size 0) refl (record { rest = zeros_unopened; is = refl })
