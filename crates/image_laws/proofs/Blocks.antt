-- The bytes of blocks: how many, and what a block holds.
use native.Mathlib.Nat.{add-zero, add-suc, zero-add, suc-add}
use lib.{ListN.length-append, Seq.{take-append_seam, drop-append_seam, drop-append-add}}
use mathlib.Core.List.{append_assoc}
use Rattle.base.{specs.Base.{ℕ, zero, suc, ◌+◌, ◌*◌, ◌≤◌, ◌<◌, ◌≡◌, true, List, ◌++◌, length, padded}, proofs.Laws.{refl, ap, arith, length-take, length-replicate, same_self}}
use Rattle.codecs.proofs.Fields.{part_length}
use Rattle.image.specs.{Blocks.{block_size, number_size, check_at, image_blocks, block, record_of, place_of, size_of, preface, record_at, block_of, blocks_of}, Alone.{record_in, well_formed}, declared.BlockRecord.{BlockRecord, TheVariants.{Header, FileSlot, LinkSlot, StreamSlot, Past}}}
use Rattle.layout.specs.Layout.{tables_size}
use Rattle.little_endian.{specs.LittleEndian.{to_bytes, part}, proofs.Numbers.to_bytes-length}
use Rattle.image_laws.proofs.Places.{record_ends}

padded-length : (n : ℕ) (xs : List ℕ) → length xs ≤ n → length (padded n xs) ≡ n
unfolding padded
padded-length n xs h = simp (length-append, length-replicate) (omega arith)

-- a part in the midst of what is joined
midst : (a f x y z : List ℕ) {at size : ℕ} → length a + length f ≡ at → length x ≡ size
    → part (((a ++ (f ++ x)) ++ y) ++ z) at size ≡ x
midst a f x y z p q =
    rw (← p, ← q)
    (simp append_assoc
    (rw (drop-append-add a (f ++ (x ++ (y ++ z))) (length f), drop-append_seam f (x ++ (y ++ z)), take-append_seam x (y ++ z))))

-- what stands before a record and the record fit a block
pub record_fits : (r : BlockRecord) → number_size + (length (preface r) + size_of r) ≤ check_at
unfolding preface size_of
record_fits Header = simp (length-append, to_bytes-length) (omega arith)
record_fits (FileSlot k) = omega arith
record_fits (LinkSlot k) = omega arith
record_fits (StreamSlot k) = omega arith
record_fits Past = omega arith

module _ (n : ℕ) (content : List ℕ) (fits : number_size + length content ≤ check_at) where
  front_length : length (padded check_at (to_bytes number_size n ++ content)) ≡ check_at
  front_length = padded-length check_at (to_bytes number_size n ++ content) (simp (length-append, to_bytes-length) fits)

  pub block-length : length (block n content) ≡ block_size
  unfolding block
  block-length = rw (length-append, front_length, to_bytes-length)

-- a block with a record of its size
pub record_in_lem : (n : ℕ) (r : BlockRecord) (x : List ℕ) → length x ≡ size_of r → record_in r (block n (preface r ++ x)) ≡ x
unfolding record_in record_at block padded
record_in_lem n r x long =
    midst (to_bytes number_size n) (preface r) x _ _ (ap (λ (k : ℕ). k + length (preface r)) (to_bytes-length number_size n)) long

-- the blocks of the tables' bytes
module _ (bs : List ℕ) where
  pub block_of-length : (n : ℕ) → length (block_of bs n) ≡ block_size
  unfolding block_of
  block_of-length n =
      let r = record_of n in
      block-length n _
      (simp (length-append, length-take) (omega (arith, record_fits r)))

  pub blocks_length : (n k : ℕ) → length (blocks_of bs n k) ≡ block_size * k
  unfolding blocks_of
  blocks_length n zero = refl
  blocks_length n (suc k) = rw (length-append, block_of-length, blocks_length (suc n) k) (omega arith)

  pub blocks_add : (n j k : ℕ) → blocks_of bs n (j + k) ≡ blocks_of bs n j ++ blocks_of bs (n + j) k
  unfolding blocks_of
  blocks_add n zero k = rw (zero-add, add-zero)
  blocks_add n (suc j) k =
      rw (suc-add, blocks_of, blocks_add (suc n) j k, append_assoc, suc-add, add-suc)

  module _ (long : length bs ≡ tables_size) (n : ℕ) (h : n < image_blocks) where
    pub record_length : length (part bs (place_of (record_of n)) (size_of (record_of n))) ≡ size_of (record_of n)
    record_length = part_length bs (place_of (record_of n)) (size_of (record_of n)) (omega (arith, record_ends n h))

    pub record_in_block : record_in (record_of n) (block_of bs n) ≡ part bs (place_of (record_of n)) (size_of (record_of n))
    unfolding block_of
    record_in_block = record_in_lem n (record_of n) _ record_length

    pub well_formed_lem : well_formed n (block_of bs n) ≡ true
    unfolding well_formed block_of
    well_formed_lem = rw record_in_block (same_self (block_of bs n))
