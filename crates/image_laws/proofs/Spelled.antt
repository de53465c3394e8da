-- Blocks that were read are the blocks of the second set that reading leaves: no second spelling.
use lib.Seq.{take-take, take-add, drop_at, length-take-le}
use lib.ListN.{length-append}
use Rattle.base.{specs.Base.{ℕ, zero, suc, ◌+◌, ◌*◌, ◌≤◌, ◌<◌, ◌≡◌, true, List, ◌++◌, length, take, drop, passed, file_slots, link_slots, stream_slots}, proofs.Laws.{refl, sym, ◌∙◌, ap, ap₂, arith, take_all, passed_same}}
use Rattle.codecs.proofs.Bytes.{take_bytes, drop_bytes}
use Rattle.image.specs.{Blocks.{block_size, image_blocks, block, record_of, place_of, size_of, preface, block_of, blocks_of}, Alone.{record_in, block_alone}, Image.{Reading, unread, blocks_in, whole_blocks, put_block, read_blocks, read_rows}, declared.BlockRecord.BlockRecord}
use Rattle.layout.specs.Layout.{tables_size}
use Rattle.little_endian.{specs.LittleEndian.{part, Bytes}, proofs.Parts.take_drop_take}
use Rattle.image_laws.proofs.{Places.{reached, placed, record_ends}, Chains.bind_passed, Reading.{whole_length, read_alone, read_put, alone_within, reader_moves, row_blocks, joined_whole, rows_joined, rows_whole}, Put.{Unopened, zeros_unopened, zero_bytes, alone_spelled, record_long, put_length, put_reaches, put_keeps, put_unopened, put_bytes, from_first}}
use Rattle.image_laws.specs.RoundTrip.{joined}

-- what a block put keeps of the second set, reading keeps; Q is what the blocks have
module _ (P Q : List ℕ → Type 0)
    (put : (n : ℕ) (b spare : List ℕ) → block_alone n b ≡ true → Q b → P spare → P (put_block n b spare))
    (front : (n : ℕ) (row : List ℕ) → Q row → Q (take n row)) (rest : (n : ℕ) (row : List ℕ) → Q row → Q (drop n row)) where
  pub blocks_keep : (s t : Reading) (k : ℕ) (row : List ℕ) → Q row → P s.spare → read_blocks s k row ≡ passed t → P t.spare
  unfolding read_blocks
  blocks_keep s t zero row q p h = rw (← passed_same h) p
  blocks_keep s t (suc k) row q p h =
      let next = bind_passed _ _ h in
      let b = take block_size row in
      blocks_keep next.0 t k (drop block_size row) (rest block_size row q)
      (rw (read_put s next.0 b next.1.0) (put s.reader b s.spare (read_alone s next.0 b next.1.0) (front block_size row q) p))
      next.1.1

-- a list's first bytes are those of another, and a part of them stands there
part_of_front : (l m : List ℕ) (at size n : ℕ) → at + size ≤ n → take n l ≡ take n m → part l at size ≡ part m at size
part_of_front l m at size n h e =
    sym (take_drop_take size at n l h) ∙ ap (λ (f : List ℕ). part f at size) e ∙ take_drop_take size at n m h

front_of_front : (l m : List ℕ) (k n : ℕ) → k ≤ n → take n l ≡ take n m → take k l ≡ take k m
front_of_front l m k n h e = sym (take-take k n l h) ∙ ap (take k) e ∙ take-take k n m h

-- blocks read from s, and what reading leaves
record Spells (s t : Reading) (k : ℕ) (row : List ℕ) : Type 0 where
  -- what the blocks before hold
  pub kept : take (reached s.reader) t.spare ≡ take (reached s.reader) s.spare
  pub is : take (block_size * k) row ≡ blocks_of t.spare s.reader k

-- a block read and the others after it
module _ (s t : Reading) (k : ℕ) (row : List ℕ) (long : length s.spare ≡ tables_size) (alone : block_alone s.reader (take block_size row) ≡ true)
    (rest : Spells (record { spare = put_block s.reader (take block_size row) s.spare; reader = suc s.reader }) t k (drop block_size row)) where
  abbrev n : ℕ
  n = s.reader

  abbrev b : List ℕ
  b = take block_size row

  abbrev r : BlockRecord
  r = record_of n

  within : n < image_blocks
  within = alone_within n b alone

  -- what the blocks before hold, and this block's record
  so_far : List ℕ
  so_far = take (reached n) s.spare ++ record_in r b

  before_length : length (take (reached n) s.spare) ≡ place_of r
  before_length = length-take-le (reached n) s.spare (omega (arith, placed n within, record_ends n within)) ∙ sym (placed n within)

  record_stands : part t.spare (place_of r) (size_of r) ≡ record_in r b
  unfolding reached so_far
  record_stands =
      let x = record_in r b in
      part_of_front t.spare so_far (place_of r) (size_of r) (reached (suc n)) (omega (arith, placed n within))
      (rest.kept ∙ put_reaches n b alone s.spare long
      ∙ sym (take_all (reached (suc n)) so_far (rw length-append (omega (arith, before_length, placed n within, record_long n b alone)))))
      ∙ ap (take (size_of r)) (drop_at (take (reached n) s.spare) x (place_of r) before_length)
      ∙ take_all (size_of r) x (omega (arith, record_long n b alone))

  next_spells : Spells s t (suc k) row
  unfolding blocks_of block_of reached
  next_spells =
      record {
        kept =
            front_of_front t.spare (put_block n b s.spare) (reached n) (reached (suc n)) (omega arith) rest.kept
            ∙ put_keeps n b alone s.spare long;
        is =
            ap (λ (j : ℕ). take j row) (let e : block_size * suc k ≡ block_size + block_size * k = omega arith in e)
            ∙ take-add block_size (block_size * k) row
            ∙ ap₂ (λ (x y : List ℕ). x ++ y)
            (alone_spelled n b alone ∙ ap (λ (x : List ℕ). block n (preface r ++ x)) (sym record_stands))
            rest.is;
      }

blocks_spelled : (s t : Reading) (k : ℕ) (row : List ℕ) → length s.spare ≡ tables_size → read_blocks s k row ≡ passed t → Spells s t k row
unfolding read_blocks blocks_of
blocks_spelled s t zero row long h =
    record { kept = rw (← passed_same h); is = refl }
blocks_spelled s t (suc k) row long h =
    let next = bind_passed _ _ h in
    let b = take block_size row in
    let alone = read_alone s next.0 b next.1.0 in
    let put = read_put s next.0 b next.1.0 in
    next_spells s t k row long alone
    (blocks_spelled (record { spare = put_block s.reader b s.spare; reader = suc s.reader }) t k (drop block_size row) (put_length s.reader b alone s.spare long) (rw put at next.1.1))

-- all blocks read from block 0 on
module _ (s t : Reading) (rows : List (List ℕ)) (first : s.reader ≡ 0) (read : read_rows s rows ≡ passed t) (last : t.reader ≡ image_blocks) where
  whole : whole_blocks (length (joined rows)) ≡ true
  whole = joined_whole rows (rows_whole s t rows read)

  by_blocks : read_blocks s (blocks_in (length (joined rows))) (joined rows) ≡ passed t
  by_blocks =
      let l : s.reader ≤ image_blocks = omega arith in
      sym (row_blocks s (joined rows) l whole) ∙ rows_joined s rows l (rows_whole s t rows read) ∙ read

  all_blocks : blocks_in (length (joined rows)) ≡ image_blocks
  all_blocks =
      let e : t.reader ≡ s.reader + blocks_in (length (joined rows)) =
      reader_moves s t (blocks_in (length (joined rows))) (joined rows) by_blocks in
      omega arith

  all-length : length (joined rows) ≡ block_size * image_blocks
  all-length = whole_length (length (joined rows)) whole ∙ ap (λ (k : ℕ). block_size * k) all_blocks

  all_read : read_blocks unread image_blocks (joined rows) ≡ passed t
  all_read =
      sym (from_first s (file_slots + link_slots + stream_slots) (joined rows) first)
      ∙ ap (λ (k : ℕ). read_blocks s k (joined rows)) (sym all_blocks)
      ∙ by_blocks

  pub spelled_unopened : Unopened t.spare
  spelled_unopened =
      blocks_keep Unopened (λ b. Unit {0}) (λ n b spare h q u. put_unopened n b h spare u) (λ n row q. tt) (λ n row q. tt)
      unread t image_blocks (joined rows) tt zeros_unopened all_read

  pub spelled_bytes : Bytes (joined rows) → Bytes t.spare
  spelled_bytes b =
      blocks_keep Bytes Bytes (λ n b spare h q u. put_bytes n b spare q u) take_bytes drop_bytes unread t image_blocks (joined rows) b (zero_bytes tables_size) all_read

  pub spelled_is : joined rows ≡ blocks_of t.spare 0 image_blocks
  spelled_is =
      sym (take_all (block_size * image_blocks) (joined rows) (omega (arith, all-length)))
      ∙ (blocks_spelled unread t image_blocks (joined rows) zeros_unopened.long all_read).is

-- rows read from block 0 to the last are the blocks of the second set that they leave
pub spelled : (s t : Reading) (rows : List (List ℕ)) → s.reader ≡ 0 → length s.spare ≡ tables_size → read_rows s rows ≡ passed t
    → t.reader ≡ image_blocks → (joined rows ≡ blocks_of t.spare 0 image_blocks) × (length t.spare ≡ tables_size)
spelled s t rows first long read last = (spelled_is s t rows first read last, (spelled_unopened s t rows first read last).long)
