-- A block written: its number and content over zeros, and the check over what stands there then.
use lib.{ListN.{length-append, replicate-append-replicate}, Seq.{sets, sets-eq, take_at, drop_at}}
use mathlib.Core.List.{append_assoc, append-nil}
use Rattle.base.{specs.Base.{ℕ, ◌+◌, ◌-◌, ◌≤◌, ◌<◌, ◌≡◌, List, ◌++◌, length, take, drop, replicate, padded, file_slots, link_slots, stream_slots}, proofs.Laws.{sym, ◌∙◌, ap, subst, arith, by_cases, length-replicate, drop_of_length-le}}
use borrow.Author.Tests.{eqb-true, eqb-false, leb-true, leb-false, ltb-true, ltb-false}
use lib.Dec.{eqb, leb, ltb}
use Prim.Native.Nat.{◌%◌}
use native.Mathlib.Nat.{zero-add}
use Rattle.image.{specs.{Blocks.{block_size, number_size, check_at, image_blocks, byte_sum, block, record_of}, declared.BlockRecord.{BlockRecord, TheVariants.{Header, FileSlot, LinkSlot, StreamSlot, Past}}}, proofs.{Check.check_bytes, Records.{header_record, file_record, link_record, stream_record, past_record}}}
use Rattle.little_endian.{specs.{LittleEndian.to_bytes, Writes.Wrote}, proofs.{Numbers.to_bytes-length, Parts.take_sets_within}}

-- a write to the end leaves what stands before it
pub sets_end : (l xs : List ℕ) (at : ℕ) → length l ≡ at + length xs → sets l at xs ≡ take at l ++ xs
sets_end l xs at e =
    sets-eq xs l at (omega arith) ∙ rw (drop_of_length-le l {i = at + length xs} (omega arith)) (append-nil (take at l ++ xs))

-- one element again and again, in part
module _ {A : Type 0} (x : A) (n m : ℕ) (h : n ≤ m) where
  replicate_apart : replicate m x ≡ replicate n x ++ replicate (m - n) x
  replicate_apart =
      let e : m ≡ n + (m - n) = omega arith in
      ap (λ (k : ℕ). replicate k x) e ∙ sym (replicate-append-replicate n (m - n) x)

  take-replicate : take n (replicate m x) ≡ replicate n x
  take-replicate = rw replicate_apart (take_at (replicate n x) (replicate (m - n) x) n (length-replicate n x))

  drop-replicate : drop n (replicate m x) ≡ replicate (m - n) x
  drop-replicate = rw replicate_apart (drop_at (replicate n x) (replicate (m - n) x) n (length-replicate n x))

-- a write over zeros is padded
over_zeros : (n m : ℕ) (xs : List ℕ) → length xs ≤ n → n ≤ m → take n (sets (replicate m 0) 0 xs) ≡ padded n xs
unfolding padded
over_zeros n m xs h l =
    let long = length-replicate {A = ℕ} n 0 in
    take_sets_within n (replicate m 0) 0 xs (omega arith)
    ∙ ap (λ (zs : List ℕ). sets zs 0 xs) (take-replicate 0 n m l)
    ∙ sets-eq xs (replicate n 0) 0 (omega arith)
    ∙ ap (λ (zs : List ℕ). xs ++ zs) (ap (λ (k : ℕ). drop k (replicate n 0)) (zero-add (length xs)) ∙ drop-replicate 0 (length xs) n h)

padded_zeros : (n k : ℕ) (xs : List ℕ) → length xs + k ≤ n → padded n (xs ++ replicate k 0) ≡ padded n xs
unfolding padded
padded_zeros n k xs h =
    let long = length-append xs (replicate k 0) in
    let zeros = length-replicate {A = ℕ} k 0 in
    let e : k + (n - length (xs ++ replicate k 0)) ≡ n - length xs = omega arith in
    rw (append_assoc, replicate-append-replicate, e)

-- zeros at the end of a content that there is room for
pub block_zeros : (n k : ℕ) (xs : List ℕ) → number_size + length xs + k ≤ check_at → block n (xs ++ replicate k 0) ≡ block n xs
unfolding block
block_zeros n k xs h =
    let long = length-append (to_bytes number_size n) xs in
    let four = to_bytes-length number_size n in
    ap (λ (front : List ℕ). front ++ to_bytes 2 (byte_sum front))
    (ap (padded check_at) (sym (append_assoc (to_bytes number_size n) xs (replicate k 0)))
    ∙ padded_zeros check_at k (to_bytes number_size n ++ xs) (omega arith))

module _ (n : ℕ) (content : List ℕ) (room : number_size + length content ≤ check_at) where
  pub block_written : {l m o : List ℕ} → l ≡ replicate block_size 0 → Wrote l 0 (to_bytes number_size n ++ content) m
      → Wrote m check_at (to_bytes 2 (byte_sum (take check_at m) % 65536)) o → o ≡ block n content
  unfolding block
  block_written {l} {m} {o} e w c =
      let long = length-append (to_bytes number_size n) content in
      let four = to_bytes-length number_size n in
      let two = to_bytes-length 2 (byte_sum (take check_at m) % 65536) in
      let size : length m ≡ block_size = w.kept ∙ ap length e ∙ length-replicate {A = ℕ} block_size 0 in
      let front : take check_at m ≡ padded check_at (to_bytes number_size n ++ content) =
      ap (take check_at) (w.is ∙ ap (λ (zs : List ℕ). sets zs 0 (to_bytes number_size n ++ content)) e)
      ∙ over_zeros check_at block_size (to_bytes number_size n ++ content) (omega arith) (omega arith) in
      c.is ∙ sets_end m (to_bytes 2 (byte_sum (take check_at m) % 65536)) check_at (omega arith)
      ∙ ap (λ (cs : List ℕ). take check_at m ++ cs) (check_bytes (byte_sum (take check_at m)))
      ∙ ap (λ (f : List ℕ). f ++ to_bytes 2 (byte_sum f)) front

-- a block's record is one that there is
unfoldable pub Within : BlockRecord → Type 0
Within Header = Unit {0}
Within (FileSlot k) = k < file_slots
Within (LinkSlot k) = k < link_slots
Within (StreamSlot k) = k < stream_slots
Within Past = Unit {0}

pub record_within : (n : ℕ) → Within (record_of n)
unfolding Within
record_within n =
    by_cases (eqb n 0) (λ e. rw (header_record n (eqb-true n 0 e)) tt)
    (λ e.
    let some = eqb-false n 0 e in
    by_cases (leb n file_slots) (λ f. let l = leb-true n file_slots f in rw (file_record n some l) (omega arith))
    (λ f.
    let files = leb-false n file_slots f in
    by_cases (leb n (file_slots + link_slots))
    (λ g. let l = leb-true n (file_slots + link_slots) g in rw (link_record n files l) (omega arith))
    (λ g.
    let links = leb-false n (file_slots + link_slots) g in
    by_cases (ltb n image_blocks) (λ h. let l = ltb-true n image_blocks h in rw (stream_record n links l) (omega arith))
    (λ h. rw (past_record n (ltb-false n image_blocks h)) tt))))

-- so is the one that a match on it names
pub named-within : (n : ℕ) {x r : BlockRecord} → x ≡ record_of n → x ≡ r → Within r
named-within n e f = subst Within (sym e ∙ f) (record_within n)
