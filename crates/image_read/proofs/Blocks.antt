-- Blocks of a row read one after another: what a turn of the loop does.
use lib.Seq.{drop-drop}
use native.Mathlib.Nat.{mul-suc, mul-zero, add_comm}
use Rattle.std.specs.Simd.{first_chunks}
use Rattle.base.{specs.Base.{ℕ, zero, suc, ◌+◌, ◌*◌, ◌-◌, ◌≤◌, ◌<◌, ◌≡◌, true, false, List, length, drop, get_or, passed, refuse, refuse_if, ◌>>◌, ◌>>=◌, FileCorruptError}, proofs.Laws.{◌∙◌, arith}}
use Rattle.little_endian.specs.LittleEndian.{part}
use Rattle.image.specs.{Blocks.block_size, Alone.block_alone, Image.{Reading, blocks_in, put_block, read_block, read_blocks}}

chunks : (w k : ℕ) (xs : List ℕ) (i : ℕ) (d : List ℕ) → i < k → get_or (first_chunks w k xs) i d ≡ part xs (w * i) w
chunks w zero xs i d h = absurd (let z : ⊥ = omega arith in z)
chunks w (suc k) xs zero d h = rw mul-zero
chunks w (suc k) xs (suc i) d h =
    let e : w * suc i ≡ w + w * i = mul-suc _ _ ∙ add_comm _ _ in
    chunks w k (drop w xs) i d (omega arith) ∙ rw (e, drop-drop)

-- a row, from a reading on
module _ (s : Reading) (row : List ℕ) where
  abbrev count : ℕ
  count = blocks_in (length row)

  -- block i of the row
  abbrev pub nth : ℕ → List ℕ
  nth i = part row (block_size * i) block_size

  abbrev reached : List ℕ → ℕ → Reading
  reached spare i = record { spare = spare; reader = s.reader + i }

  -- i blocks are read: what is left is to read the others
  pub record ReadTo (spare : List ℕ) (i : ℕ) : Type 0 where
    pub within : i ≤ count
    pub rest : read_blocks s count row ≡ read_blocks (reached spare i) (count - i) (drop (block_size * i) row)

  pub read_none : ReadTo s.spare 0
  read_none =
      let k : count - 0 ≡ count = omega arith in
      let n : s.reader + 0 ≡ s.reader = omega arith in
      record { within = omega arith; rest = rw (k, n) }

  -- the row's blocks, as the library cuts them
  pub chunk : {blocks : List (List ℕ)} (i : ℕ) (d : List ℕ) → blocks ≡ first_chunks block_size count row → i < count → get_or blocks i d ≡ nth i
  chunk i d e h = rw e (chunks block_size count row i d h)

  module _ (spare : List ℕ) (i : ℕ) (read : ReadTo spare i) where
    module _ (more : i < count) where
      turn : read_blocks s count row
          ≡ (read_block (reached spare i) (nth i) >>= (λ next. read_blocks next (count - (i + 1)) (drop block_size (drop (block_size * i) row))))
      unfolding read_blocks
      turn = let k : count - i ≡ suc (count - (i + 1)) = omega arith in read.rest ∙ rw k

      pub read_stops : block_alone (s.reader + i) (nth i) ≡ false → read_blocks s count row ≡ refuse FileCorruptError
      unfolding read_block refuse_if ◌>>◌ ◌>>=◌
      read_stops e = turn ∙ rw e

      pub read_next : {m : List ℕ} → block_alone (s.reader + i) (nth i) ≡ true → m ≡ put_block (s.reader + i) (nth i) spare → ReadTo m (i + 1)
      unfolding read_block refuse_if ◌>>◌ ◌>>=◌
      read_next e put =
          let n : suc (s.reader + i) ≡ s.reader + (i + 1) = omega arith in
          let at : block_size * i + block_size ≡ block_size * (i + 1) = omega arith in
          record { within = omega arith; rest = turn ∙ rw (e, put, drop-drop block_size (block_size * i) row, n, at) }

    pub read_ends : count ≤ i → read_blocks s count row ≡ passed (reached spare count)
    unfolding read_blocks
    read_ends h =
        let k : count - i ≡ 0 = omega arith in
        let n : i ≡ count = omega (arith, read.within) in
        read.rest ∙ rw (k, n)
