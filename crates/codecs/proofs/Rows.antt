-- Rows of numbers one at a time: what a turn of a loop that reads or writes them does.
use Prim.Native.Nat.{ℕ, zero, suc, ◌+◌, ◌*◌, ◌<◌, ◌≤◌}
use lib.{ListN.{length, take, drop, set, get_or, length-append, drop_of_length-le}, Seq.{drop-drop, drop-cons, take-suc, set_at, append_snoc, length-take-le, take_all}}
use mathlib.Core.{Path.{◌≡◌, refl, sym, ◌∙◌, ap}, List.{List, [], ◌∷◌, ◌++◌, append-nil, append_assoc}}
use native.Mathlib.{Nat.{mul-suc, mul-zero, mul-le-mul_left, add_comm}, Numerals.add-one, Omega.arith}
use Rattle.little_endian.{specs.{LittleEndian.{part}, Writes.Wrote}, proofs.{Parts.then, Numbers.to_bytes-length}}
use Rattle.codecs.proofs.{Laws.row_count, Fields.part-part}
use Rattle.codecs.specs.Codec.{Codec, number, decode_row, encode_row}

module _ {A : Type 0} (c : Codec A) where
  decode_snoc : (i : ℕ) (bs : List ℕ) → decode_row c (suc i) bs ≡ decode_row c i bs ++ (c.decode (part bs (c.size * i) c.size) ∷ [])
  unfolding decode_row
  decode_snoc zero bs = rw mul-zero
  decode_snoc (suc i) bs =
      let e : c.size * suc i ≡ c.size + c.size * i = mul-suc _ _ ∙ add_comm _ _ in
      ap {B = List A} (λ r. c.decode (take c.size bs) ∷ r) (decode_snoc i (drop c.size bs) ∙ rw (drop-drop, e))

  encode-append : (xs ys : List A) → encode_row c (xs ++ ys) ≡ encode_row c xs ++ encode_row c ys
  unfolding encode_row
  encode-append [] ys = refl
  encode-append (x ∷ xs) ys = rw (encode-append xs ys) (sym (append_assoc (c.encode x) (encode_row c xs) (encode_row c ys)))

  -- a loop that reads has put the first i values before what stood there
  pub read_begins : (bs : List ℕ) (l : List A) → l ≡ decode_row c 0 bs ++ drop 0 l
  unfolding decode_row
  read_begins bs l = refl

  pub read_turn : (bs : List ℕ) (i : ℕ) (l₀ l : List A) → i < length l₀ → l ≡ decode_row c i bs ++ drop i l₀
      → set l i (c.decode (part bs (c.size * i) c.size)) ≡ decode_row c (suc i) bs ++ drop (suc i) l₀
  read_turn bs i l₀ l h e =
      let x = c.decode (part bs (c.size * i) c.size) in
      rw (e, drop-cons l₀ i x h, decode_snoc i bs)
      (set_at (decode_row c i bs) (get_or l₀ i x) (drop (suc i) l₀) x i (row_count c i bs)
      ∙ sym (append_snoc (decode_row c i bs) x (drop (suc i) l₀)))

  pub read_ends : (bs : List ℕ) (i : ℕ) (l₀ l : List A) → length l₀ ≤ i → i ≤ length l₀ → l ≡ decode_row c i bs ++ drop i l₀
      → l ≡ decode_row c (length l₀) bs
  read_ends bs i l₀ l h h' e =
      let n : i ≡ length l₀ = omega arith in
      e ∙ rw (drop_of_length-le l₀ {i = i} h) (append-nil (decode_row c i bs) ∙ rw n)

module _ {A : Type 0} (c : Codec A) (long : (x : A) → length (c.encode x) ≡ c.size) where
  encode-length : (xs : List A) → length (encode_row c xs) ≡ c.size * length xs
  unfolding encode_row
  encode-length [] = omega arith
  encode-length (x ∷ xs) = rw (length-append, long x, encode-length xs, mul-suc) (omega arith)

  -- a loop that writes has written the first i values
  write_turn : {l m o : List ℕ} (at i : ℕ) (xs : List A) (x : A) → i < length xs → x ≡ get_or xs i x
      → Wrote l at (encode_row c (take i xs)) m → Wrote m (at + c.size * i) (c.encode x) o → Wrote l at (encode_row c (take (suc i) xs)) o
  unfolding encode_row
  write_turn {l} {m} {o} at i xs x h e a b =
      let n : length (encode_row c (take i xs)) ≡ c.size * i =
      encode-length (take i xs) ∙ rw (length-take-le i xs (omega arith)) in
      rw (take-suc xs i x h, ← e, encode-append c (take i xs) (x ∷ []))
      (then a (rw (n, append-nil (c.encode x)) b))

-- a row of numbers of w bytes written, and something after it
pub row_after : (w : ℕ) (xs : List ℕ) {l m o ys : List ℕ} {at at' : ℕ} → at' ≡ at + w * length xs
    → Wrote l at (encode_row (number w) xs) m → Wrote m at' ys o → Wrote l at (encode_row (number w) xs ++ ys) o
row_after w xs e a b = then a (rw (encode-length (number w) (to_bytes-length w) xs, ← e) b)

-- a loop that reads a row into l₀, at i
pub record Reading {A : Type 0} (c : Codec A) (b : List ℕ) (at : ℕ) (l₀ l : List A) (i : ℕ) : Type 0 where
  pub within : i ≤ length l₀
  pub is : l ≡ decode_row c i (part b at (c.size * length l₀)) ++ drop i l₀

-- a loop that writes the row xs into l, at i
pub record Writing {A : Type 0} (c : Codec A) (l : List ℕ) (at : ℕ) (xs : List A) (m : List ℕ) (i : ℕ) : Type 0 where
  pub within : i ≤ length xs
  pub wrote : Wrote l at (encode_row c (take i xs)) m

module _ {A : Type 0} (c : Codec A) where
  pub reading_begins : (b : List ℕ) (at : ℕ) (l : List A) → Reading c b at l l 0
  reading_begins b at l = record { within = omega arith; is = read_begins c _ l }

  pub reading_turn : (b : List ℕ) (at : ℕ) (l₀ l : List A) (i : ℕ) (x : A) → i < length l₀ → x ≡ c.decode (part b (at + c.size * i) c.size)
      → Reading c b at l₀ l i → Reading c b at l₀ (set l i x) (i + 1)
  reading_turn b at l₀ l i x h e r =
      let p : part (part b at (c.size * length l₀)) (c.size * i) c.size ≡ part b (at + c.size * i) c.size =
      part-part b at (c.size * length l₀) (c.size * i) c.size (omega (arith, mul-le-mul_left c.size h)) in
      let t = rw p at (read_turn c (part b at (c.size * length l₀)) i l₀ l h r.is) in
      record { within = omega arith; is = rw (add-one, e) t }

  pub reading_ends : (b : List ℕ) (at : ℕ) (l₀ l : List A) (i : ℕ) → length l₀ ≤ i → Reading c b at l₀ l i
      → l ≡ decode_row c (length l₀) (part b at (c.size * length l₀))
  reading_ends b at l₀ l i h r = read_ends c _ i l₀ l h r.within r.is

  pub writing_begins : (l : List ℕ) (at : ℕ) (xs : List A) → Writing c l at xs l 0
  unfolding encode_row
  writing_begins l at xs = record { within = omega arith; wrote = record { is = refl; kept = refl } }

  pub writing_turn : ((x : A) → length (c.encode x) ≡ c.size) → {l m o : List ℕ} {at i : ℕ} {xs : List A} {x : A} → i < length xs
      → x ≡ get_or xs i x → Writing c l at xs m i → Wrote m (at + c.size * i) (c.encode x) o → Writing c l at xs o (i + 1)
  writing_turn long {at = at} {i = i} {xs = xs} {x = x} h e a b =
      record { within = omega arith; wrote = rw add-one (write_turn c long at i xs x h e a.wrote b) }

  pub writing_ends : {l m : List ℕ} {at i : ℕ} {xs : List A} → length xs ≤ i → Writing c l at xs m i
      → Wrote l at (encode_row c xs) m
  writing_ends {i = i} {xs = xs} h a = rw (take_all i xs h) at a.wrote
