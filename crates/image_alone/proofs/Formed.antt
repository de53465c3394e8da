-- A block by itself, as the code tests it: number, preface, zeros and check, and the header's record.
use Prim.Native.Nat.{◌%◌, ◌^◌}
use borrow.Author.Tests.{lt-ltb}
use mathlib.Core.Bool.{and-true, and-false}
use lib.{ListN.length-append, Seq.{drop-drop, take-take}}
use native.Mathlib.Nat.{mod-lt, zero-add}
use Rattle.base.{specs.Base.{ℕ, ◌+◌, ◌-◌, ◌≤◌, ◌<◌, ◌≡◌, Bool, not, ◌&&◌, List, ◌++◌, eqb, ltb, length, take, drop, replicate, same, padded, file_slots, link_slots, stream_slots}, proofs.Laws.{refl, sym, ◌∙◌, ap, ap₂, arith, by_cases, ltb-false, same_is, same_self, take_all, length-drop, length-replicate}}
use Rattle.little_endian.{specs.LittleEndian.{from_bytes, to_bytes, part, Bytes}, proofs.{Parts.drop-take, Numbers.to_bytes-length}}
use Rattle.layout.specs.Kinds.{marks}
use Rattle.codecs.proofs.{Bytes.{take_bytes, drop_bytes}, Fields.part_length}
use Rattle.image.{specs.{Blocks.{block_size, check_at, number_size, edition, image_blocks, byte_sum, check, block, record_of, size_of, preface, record_at}, Alone.{record_in, well_formed, header_alone, record_alone, block_alone}, declared.BlockRecord.{BlockRecord, TheVariants.{Header, FileSlot, LinkSlot, StreamSlot, Past}}}, proofs.{Check.check_bytes, Records.past_record}}
use Rattle.image_alone.proofs.Compared.{same-split, same_parts, same_number}

-- the tests
abbrev numbered : ℕ → List ℕ → Bool
numbered n b = eqb (from_bytes (part b 0 number_size)) n

abbrev prefaced : BlockRecord → List ℕ → Bool
prefaced r b = same (part b number_size (length (preface r))) (preface r)

abbrev record_end : BlockRecord → ℕ
record_end r = record_at r + size_of r

-- from the record's end to the check
abbrev clear_after : BlockRecord → List ℕ → Bool
clear_after r b = let rest = part b (record_end r) (check_at - record_end r) in same rest (replicate (length rest) 0)

abbrev checks : List ℕ → Bool
checks b = eqb (from_bytes (part b check_at 2)) (byte_sum (take check_at b) % 65536)

-- every record ends before the check
pub record_fits : (r : BlockRecord) → record_end r < check_at
unfolding record_at preface size_of to_bytes
record_fits Header = omega arith
record_fits (FileSlot k) = omega arith
record_fits (LinkSlot k) = omega arith
record_fits (StreamSlot k) = omega arith
record_fits Past = omega arith

module _ (b : List ℕ) (long : length b ≡ block_size) (bytes : Bytes b) where
  -- a number at a place of a block
  number_at : (at w x : ℕ) → at + w ≤ block_size → x < 256 ^ w → same (part b at w) (to_bytes w x) ≡ eqb (from_bytes (part b at w)) x
  number_at at w x h fits =
      same_number (part b at w) w x (take_bytes w (drop at b) (drop_bytes at b bytes)) (part_length b at w (omega arith)) fits

  check_at_lem : same (drop check_at b) (check (take check_at b)) ≡ checks b
  check_at_lem =
      let sum = byte_sum (take check_at b) in
      ap₂ same (sym (take_all 2 (drop check_at b) (rw length-drop (omega arith)))) (sym (check_bytes sum))
      ∙ number_at check_at 2 (sum % 65536) (omega arith) (mod-lt sum (omega arith))

  -- the check that a block should have is over bytes that it should have; where it has these, over its own
  checked : (front : List ℕ) → length front ≡ check_at → same b (front ++ check front) ≡ (same (take check_at b) front && checks b)
  checked front e =
      same-split b front (check front)
      ∙ rw e
      (by_cases (same (take check_at b) front) (λ t. rw t (rw (← same_is (take check_at b) front t) check_at_lem)) (λ f. rw f))

  -- edition and slot counts, each at its place
  pub header_preface : prefaced Header b
      ≡ (eqb (from_bytes (part b 4 2)) edition
      && eqb (from_bytes (part b 6 2)) file_slots
      && eqb (from_bytes (part b 8 2)) link_slots
      && eqb (from_bytes (part b 10 2)) stream_slots)
  unfolding preface
  header_preface =
      let e = to_bytes 2 edition in
      let f = to_bytes 2 file_slots in
      let l = to_bytes 2 link_slots in
      let s = to_bytes 2 stream_slots in
      let two = to_bytes-length 2 edition in
      let four : length (e ++ f) ≡ 4 = simp (length-append, to_bytes-length) in
      let six : length (e ++ f ++ l) ≡ 6 = simp (length-append, to_bytes-length) in
      let eight : length (e ++ f ++ l ++ s) ≡ 8 = simp (length-append, to_bytes-length) in
      rw (eight, same_parts b 4 6 2 (e ++ f ++ l) s six, same_parts b 4 4 2 (e ++ f) l four, same_parts b 4 2 2 e f two)
      (rw (
        number_at 4 2 edition (omega arith) (omega arith),
        number_at 6 2 file_slots (omega arith) (omega arith),
        number_at 8 2 link_slots (omega arith) (omega arith),
        number_at 10 2 stream_slots (omega arith) (omega arith),
      ))

  -- a block against the one that a record has: number, preface and record, which is its own; then zeros; then the check
  module _ (n : ℕ) (r : BlockRecord) (within : n < image_blocks) where
    up_to_record : length (to_bytes number_size n ++ (preface r ++ record_in r b)) ≡ record_end r
    unfolding record_in record_at
    up_to_record =
        let fits = record_fits r in
        simp (length-append, to_bytes-length, part_length b (record_at r) (size_of r) (omega arith)) (omega arith)

    own_record : same (part b number_size (length (preface r) + size_of r)) (preface r ++ record_in r b) ≡ prefaced r b
    unfolding record_in record_at
    own_record =
        same_parts b number_size (length (preface r)) (size_of r) (preface r) (record_in r b) refl
        ∙ rw (same_self (record_in r b)) (and-true (prefaced r b))

    begins : same (part b 0 (record_end r)) (to_bytes number_size n ++ (preface r ++ record_in r b)) ≡ (numbered n b && prefaced r b)
    unfolding record_at
    begins =
        let content = preface r ++ record_in r b in
        let long : record_end r ≡ number_size + (length (preface r) + size_of r) = omega arith in
        ap (λ (l : ℕ). same (part b 0 l) (to_bytes number_size n ++ content)) long
        ∙ same_parts b 0 number_size (length (preface r) + size_of r) (to_bytes number_size n) content (to_bytes-length number_size n)
        ∙ ap₂ (λ (h t : Bool). h && t) (number_at 0 number_size n (omega arith) (omega arith)) own_record

    block-parts : same b (block n (preface r ++ record_in r b)) ≡ (numbered n b && prefaced r b && clear_after r b && checks b)
    unfolding block padded
    block-parts =
        let content = to_bytes number_size n ++ (preface r ++ record_in r b) in
        let end = record_end r in
        let fits : end < check_at = record_fits r in
        let zeros : List ℕ = replicate (check_at - end) 0 in
        let padding : padded check_at content ≡ content ++ zeros =
        ap (λ (l : ℕ). content ++ replicate (check_at - l) 0) up_to_record in
        let filled : length (content ++ zeros) ≡ check_at =
        length-append content zeros ∙ rw length-replicate (omega (arith, up_to_record)) in
        let rest : length (part b end (check_at - end)) ≡ check_at - end = part_length b end (check_at - end) (omega arith) in
        let after : same (part b (0 + end) (check_at - end)) zeros ≡ clear_after r b = rw (rest, zero-add end) in
        let all : check_at ≡ end + (check_at - end) = omega arith in
        ap (λ (f : List ℕ). same b (f ++ check f)) padding
        ∙ checked (content ++ zeros) filled
        ∙ ap (λ (t : Bool). t && checks b)
        (ap (λ (l : ℕ). same (part b 0 l) (content ++ zeros)) all
        ∙ same_parts b 0 end (check_at - end) content zeros up_to_record
        ∙ ap₂ (λ (h t : Bool). h && t) begins after)

  -- a block of the image is well formed where its tests pass
  pub formed : (n : ℕ) → n < image_blocks
      → (ltb n image_blocks && well_formed n b)
      ≡ (numbered n b && prefaced (record_of n) b && clear_after (record_of n) b && checks b)
  unfolding well_formed
  formed n h = rw (lt-ltb n image_blocks h) (block-parts n (record_of n) h)

-- past the last block there is no record, so none is right by itself
pub alone_within : (n : ℕ) (b : List ℕ)
    → block_alone n b ≡ (ltb n image_blocks && well_formed n b && record_alone (record_of n) (record_in (record_of n) b))
unfolding block_alone record_alone
alone_within n b =
    by_cases (ltb n image_blocks) (λ t. rw t)
    (λ f. rw f (rw (past_record n (ltb-false n image_blocks f)) (and-false (well_formed n b))))

-- the header's record: its mark at 12, and the next handle after it
pub header_parts : (b : List ℕ) → header_alone (record_in Header b)
    ≡ (ltb (from_bytes (part b 12 2)) marks && not (eqb (from_bytes (part b 14 8)) 0))
unfolding header_alone record_in record_at preface size_of to_bytes
header_parts b = rw (take-take 2 10 (drop 12 b) (omega arith), drop-take 2 10 (drop 12 b), drop-drop 2 12 b)
