-- The next handle in the blocks that a write gives.
use Prim.Native.Nat.{◌^◌}
use lib.{Dec.lit<, Seq.{take_at, drop_at}}
use Rattle.base.{specs.Base.{ℕ, zero, suc, ◌+◌, ◌≤◌, ◌<◌, ◌≡◌, true, List, ◌++◌, take, any, same, padded, Tables}, proofs.Laws.{refl, sym, ◌∙◌, ap, subst, arith, ⊎_elim, or_cases, same_is}}
use Rattle.image.specs.{Blocks.{block_size, number_size, image_blocks, block, record_of, place_of, size_of, preface, record_at, block_of, blocks_of, without_opens}, Alone.record_in, declared.BlockRecord.TheVariants.Header}
use Rattle.image_laws.proofs.Blocks.{block_of-length}
use Rattle.layout.specs.{Layout.{next_at, encode}, Records.handle_codec}
use Rattle.little_endian.{specs.LittleEndian.{from_bytes, to_bytes, part}, proofs.Numbers.from_to}
use Rattle.restarts.specs.Events.{cut}

-- the bytes of the next handle after so many accepted opens
abbrev pub next_bytes : ℕ → List ℕ
next_bytes count = to_bytes handle_codec.size (suc count)

-- where the next handle stands in the tables' bytes, and so in the header's record
abbrev pub next_in : List ℕ → List ℕ
next_in bs = part bs next_at handle_codec.size

-- a block that has this next handle, if its number is 0
abbrev pub Fresh : ℕ → List ℕ → Type 0
Fresh count b = take number_size b ≡ to_bytes number_size 0 → next_in (record_in Header b) ≡ next_bytes count

abbrev pub AllFresh : ℕ → List (List ℕ) → Type 0
AllFresh count written = (b : List ℕ) → any (same b) written ≡ true → Fresh count b

-- a block begins with its number
pub number_first : (bs : List ℕ) (n : ℕ) → take number_size (block_of bs n) ≡ to_bytes number_size n
unfolding block_of block padded to_bytes
number_first bs n = refl

module _ (t : Tables) (count : ℕ) (next : t.volume.next_handle.0 ≡ suc count) where
  header_fresh : next_in (record_in Header (block_of (encode (without_opens t)) 0)) ≡ next_bytes count
  unfolding record_in record_at block_of block padded record_of place_of size_of preface encode without_opens to_bytes
  header_fresh = ap (to_bytes handle_codec.size) next

  block-fresh : (n : ℕ) → n < image_blocks → Fresh count (block_of (encode (without_opens t)) n)
  block-fresh n h e =
      let same = sym (number_first (encode (without_opens t)) n) ∙ e in
      let b : n < 256 ^ number_size = omega (arith, lit< {m = image_blocks} {n = 256 ^ number_size} tt) in
      let zero : n ≡ 0 = sym (from_to number_size n b) ∙ ap from_bytes same ∙ from_to number_size 0 (lit< tt) in
      rw zero header_fresh

  -- the blocks that a write gives, with those written before
  pub given_fresh : (written : List (List ℕ)) → AllFresh count written → (k n : ℕ) → n + k ≤ image_blocks
      → AllFresh count (cut k (blocks_of (encode (without_opens t)) n k) ++ written)
  unfolding cut blocks_of any
  given_fresh written fresh zero n h = fresh
  given_fresh written fresh (suc k) n h =
      let bs = encode (without_opens t) in
      let long = block_of-length bs n in
      λ b s.
      ⊎_elim
      (λ e. subst (Fresh count) (sym (same_is b _ e ∙ take_at _ _ block_size long)) (block-fresh n (omega arith)))
      (λ e. given_fresh written fresh k (suc n) (omega arith) b (rw (drop_at (block_of bs n) (blocks_of bs (suc n) k) block_size long) at e))
      (or_cases (same b (take block_size (block_of bs n ++ blocks_of bs (suc n) k))) _ s)
