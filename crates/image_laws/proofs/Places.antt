-- Where the records of the blocks stand in the tables' bytes: side by side in the order of the blocks, from the first byte to
-- the opens.
use native.Mathlib.Nat.{add-suc, add-zero, mul-zero}
use native.Mathlib.Decide.{dec_lt}
use Rattle.base.{specs.Base.{ℕ, zero, suc, ◌+◌, ◌*◌, ◌-◌, ◌≤◌, ◌<◌, ◌≡◌, file_slots, link_slots, stream_slots}, proofs.Laws.{refl, sym, ◌∙◌, ap, subst, arith, ℕ_discrete}}
use Rattle.image.{specs.{Blocks.{image_blocks, record_of, place_of, size_of}, declared.BlockRecord.{BlockRecord, TheVariants.{Header, FileSlot, LinkSlot, StreamSlot}}}, proofs.Records.{header_record, file_record, link_record, stream_record}}
use Rattle.layout.specs.Layout.{files_at, links_at, streams_at, file_size, link_size, stream_size, opens_at}

-- what the records of all blocks have in their ranges, the record of block n has
pub each_record : (P : BlockRecord → Type 0) (n : ℕ) → n < image_blocks → (n ≡ 0 → P Header)
    → ((k : ℕ) → k < file_slots → n ≡ 1 + k → P (FileSlot k))
    → ((k : ℕ) → k < link_slots → n ≡ 1 + file_slots + k → P (LinkSlot k))
    → ((k : ℕ) → k < stream_slots → n ≡ 1 + file_slots + link_slots + k → P (StreamSlot k))
    → P (record_of n)
each_record P n h header file link stream =
    elim (ℕ_discrete n 0) [
      | yes e ↦ subst P (sym (header_record n e)) (header e)
      | no ne ↦ elim (dec_lt file_slots n) [
        | no f ↦ subst P (sym (file_record n ne (omega arith))) (file (n - 1) (omega arith) (omega arith))
        | yes f ↦ elim (dec_lt (file_slots + link_slots) n) [
          | no l ↦ subst P (sym (link_record n f (omega arith))) (link (n - 1 - file_slots) (omega arith) (omega arith))
          | yes l ↦ subst P (sym (stream_record n l h)) (stream (n - 1 - file_slots - link_slots) (omega arith) (omega arith))
        ]
      ]
    ]

-- how many of the tables' bytes the first n blocks hold
unfoldable pub reached : ℕ → ℕ
reached zero = 0
reached (suc n) = reached n + size_of (record_of n)

-- blocks whose records have one size
run_reached : (n count size : ℕ) → ((k : ℕ) → k < count → size_of (record_of (n + k)) ≡ size) → (k : ℕ) → k ≤ count
    → reached (n + k) ≡ reached n + size * k
unfolding reached
run_reached n count size each zero h = rw (add-zero, mul-zero, add-zero)
run_reached n count size each (suc k) h =
    rw (add-suc, reached, run_reached n count size each k (omega arith), each k (omega arith)) (omega arith)

files_reached : (k : ℕ) → k ≤ file_slots → reached (1 + k) ≡ files_at + file_size * k
unfolding reached size_of
files_reached k h =
    run_reached 1 file_slots file_size
    (λ j l. rw (file_record (1 + j) (λ e. let z : ⊥ = omega arith in z) (omega arith))) k h
    ∙ rw (header_record 0 refl)

links_reached : (k : ℕ) → k ≤ link_slots → reached (1 + file_slots + k) ≡ links_at + link_size * k
unfolding size_of
links_reached k h =
    run_reached (1 + file_slots) link_slots link_size (λ j l. rw (link_record (1 + file_slots + j) (omega arith) (omega arith))) k h
    ∙ rw (files_reached file_slots (omega arith))

streams_reached : (k : ℕ) → k ≤ stream_slots → reached (1 + file_slots + link_slots + k) ≡ streams_at + stream_size * k
unfolding size_of
streams_reached k h =
    run_reached (1 + file_slots + link_slots) stream_slots stream_size
    (λ j l. rw (stream_record (1 + file_slots + link_slots + j) (omega arith) (omega arith))) k h
    ∙ rw (links_reached link_slots (omega arith))

-- the last block's ends where the opens begin
pub reached_all : reached image_blocks ≡ opens_at
reached_all = streams_reached stream_slots (omega arith)

-- a block's record stands after those of the blocks before
pub placed : (n : ℕ) → n < image_blocks → place_of (record_of n) ≡ reached n
unfolding place_of reached
placed n h =
    each_record (λ r. place_of r ≡ reached n) n h (λ e. sym (ap reached e)) (λ k l e. sym (ap reached e ∙ files_reached k (omega arith)))
    (λ k l e. sym (ap reached e ∙ links_reached k (omega arith))) (λ k l e. sym (ap reached e ∙ streams_reached k (omega arith)))

-- and before the opens
pub record_ends : (n : ℕ) → n < image_blocks → place_of (record_of n) + size_of (record_of n) ≤ opens_at
unfolding place_of size_of
record_ends n h =
    each_record (λ r. place_of r + size_of r ≤ opens_at) n h (λ e. omega arith) (λ k l e. omega arith) (λ k l e. omega arith) (λ k l e. omega arith)
