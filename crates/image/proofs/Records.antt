-- Which record a block holds, by its number; and each record's block.
use Rattle.base.{specs.Base.{ℕ, ◌+◌, ◌-◌, ◌≤◌, ◌<◌, ◌≡◌, file_slots, link_slots}, proofs.Laws.{eq-eqb, ne_eqb, le-leb, lt-leb, arith}}
use borrow.Author.Tests.{lt-ltb, le-ltb}
use Rattle.image.specs.Blocks.{image_blocks, record_of}
use Rattle.image.specs.declared.{BlockRecord.{TheVariants.{Header, FileSlot, LinkSlot, StreamSlot, Past}}}

pub header_record : (n : ℕ) → n ≡ 0 → record_of n ≡ Header
unfolding record_of
header_record n e = rw (eq-eqb n 0 e)

pub file_record : (n : ℕ) → (n ≡ 0 → ⊥) → n ≤ file_slots → record_of n ≡ FileSlot (n - 1)
unfolding record_of
file_record n h l = rw (ne_eqb n 0 h, le-leb n file_slots l)

pub link_record : (n : ℕ) → file_slots < n → n ≤ file_slots + link_slots → record_of n ≡ LinkSlot (n - 1 - file_slots)
unfolding record_of
link_record n h l =
    rw (ne_eqb n 0 (λ e. let z : ⊥ = omega arith in z), lt-leb n file_slots h, le-leb n (file_slots + link_slots) l)

pub stream_record : (n : ℕ) → file_slots + link_slots < n → n < image_blocks → record_of n ≡ StreamSlot (n - 1 - file_slots - link_slots)
unfolding record_of
stream_record n h l =
    rw (ne_eqb n 0 (λ e. let z : ⊥ = omega arith in z), lt-leb n file_slots (omega arith), lt-leb n (file_slots + link_slots) h, lt-ltb n image_blocks l)

pub past_record : (n : ℕ) → image_blocks ≤ n → record_of n ≡ Past
unfolding record_of
past_record n h =
    rw (ne_eqb n 0 (λ e. let z : ⊥ = omega arith in z), lt-leb n file_slots (omega arith), lt-leb n (file_slots + link_slots) (omega arith), le-ltb n image_blocks h)
