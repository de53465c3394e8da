-- Bytes that spell a value: those of its form and no others. So two lists that spell one value are equal.
use lib.Seq.{sets, sets-eq, length-sets}
use native.Mathlib.Nat.{mod-lt}
use Prim.Native.Nat.{◌/◌}
use Rattle.base.{specs.Base.{ℕ, zero, suc, ◌+◌, ◌≡◌, true, List, [], ◌∷◌, ◌++◌, length, replicate, take, drop, File, Link, ShareCounts, Stream, Open, Tables}, proofs.Laws.{sym, ◌∙◌, ap, arith, length-replicate}}
use Rattle.codecs.{specs.{Codec.{Codec, number, encode_row, Lawful}, Field.Field}, proofs.{Bytes.{take_bytes, drop_bytes}, Laws.same_bytes, Fields.{part_length, written, written_stands}, Zeros.replicate_zeros}}
use Rattle.layout.specs.{Records.{file_codec, link_codec, counts_codec, stream_codec, open_codec}, Layout.{tables_codec, encode}}
use Rattle.little_endian.specs.{LittleEndian.{to_bytes, part, Bytes}, Writes.Wrote}

-- each element is a byte
record AreBytes (bs : List ℕ) : Type 0 where
  are : Bytes bs

both_are : (xs ys : List ℕ) → Bytes xs → Bytes ys → Bytes (xs ++ ys)
both_are [] ys a b i = b i
both_are (x ∷ xs) ys a b zero = a 0
both_are (x ∷ xs) ys a b (suc i) = both_are xs ys (λ k. a (suc k)) b i

both_bytes : {xs ys : List ℕ} → AreBytes xs → AreBytes ys → AreBytes (xs ++ ys)
both_bytes {xs} {ys} a b = record { are = both_are xs ys a.are b.are }

number_are : (w x : ℕ) → Bytes (to_bytes w x)
unfolding to_bytes
number_are zero x i = omega arith
number_are (suc w) x zero = mod-lt x (omega arith)
number_are (suc w) x (suc i) = number_are w (x / 256) i

number_bytes : (w x : ℕ) → AreBytes (to_bytes w x)
number_bytes w x = record { are = number_are w x }

row_bytes : {A : Type 0} (c : Codec A) → ((x : A) → AreBytes (c.encode x)) → (xs : List A) → AreBytes (encode_row c xs)
unfolding encode_row
row_bytes c h [] = record { are = λ i. omega arith }
row_bytes c h (x ∷ xs) = both_bytes (h x) (row_bytes c h xs)

-- the bytes of a record are bytes, and so are those of the tables
file_bytes : (f : File) → AreBytes (file_codec.encode f)
file_bytes f =
    both_bytes (number_bytes 2 _) (both_bytes (number_bytes 4 _) (both_bytes (row_bytes (number 4) (number_bytes 4) _) (number_bytes 2 _)))

link_bytes : (l : Link) → AreBytes (link_codec.encode l)
link_bytes l = both_bytes (number_bytes 2 _) (both_bytes (number_bytes 2 _) (row_bytes (number 2) (number_bytes 2) _))

counts_bytes : (c : ShareCounts) → AreBytes (counts_codec.encode c)
counts_bytes c =
    both_bytes (number_bytes 2 _)
    (both_bytes (number_bytes 2 _)
    (both_bytes (number_bytes 2 _)
    (both_bytes (number_bytes 2 _) (both_bytes (number_bytes 2 _) (both_bytes (number_bytes 2 _) (number_bytes 2 _))))))

stream_bytes : (s : Stream) → AreBytes (stream_codec.encode s)
stream_bytes s =
    both_bytes (number_bytes 2 _)
    (both_bytes (number_bytes 2 _)
    (both_bytes (row_bytes (number 2) (number_bytes 2) _) (both_bytes (counts_bytes s.counts) (number_bytes 2 _))))

open_bytes : (o : Open) → AreBytes (open_codec.encode o)
open_bytes o =
    both_bytes (number_bytes 8 _)
    (both_bytes (number_bytes 2 _)
    (both_bytes (number_bytes 2 _) (both_bytes (number_bytes 4 _) (both_bytes (number_bytes 4 _) (number_bytes 2 _)))))

tables_bytes : (t : Tables) → AreBytes (tables_codec.encode t)
tables_bytes t =
    both_bytes (number_bytes 2 _)
    (both_bytes (number_bytes 8 _)
    (both_bytes (row_bytes file_codec file_bytes _)
    (both_bytes (row_bytes link_codec link_bytes _)
    (both_bytes (row_bytes stream_codec stream_bytes _) (row_bytes open_codec open_bytes _)))))

pub encode_bytes : (t : Tables) → Bytes (encode t)
unfolding encode
encode_bytes t = (tables_bytes t).are

pub record Spells {A : Type 0} (c : Codec A) (x : A) (bs : List ℕ) : Type 0 where
  pub bytes : Bytes bs
  pub long : length bs ≡ c.size
  pub stands : c.stands bs ≡ true
  pub is : c.decode bs ≡ x

pub spelled_once : {A : Type 0} {c : Codec A} {F : A → Type 0} {x : A} {bs cs : List ℕ} → Lawful c F → Spells c x bs → Spells c x cs → bs ≡ cs
spelled_once C s t =
    same_bytes C _ _ s.bytes t.bytes s.long t.long s.stands t.stands (s.is ∙ sym t.is)

module _ {A B : Type 0} {c : Codec A} {d : Codec B} {at : ℕ} {get : A → B} {put : A → B → A} (f : Field c d at get put)
    {x : A} {bs : List ℕ} (s : Spells c x bs) where
  -- a field's bytes spell the field
  pub spelled_part : Spells d (get x) (part bs at d.size)
  spelled_part =
      record {
        bytes = take_bytes d.size (drop at bs) (drop_bytes at bs s.bytes);
        long = part_length bs at d.size (omega (arith, f.inside, s.long));
        stands = f.held bs s.long s.stands;
        is = sym (f.reads bs s.long) ∙ ap get s.is;
      }

  -- zeros for a field spell the value with its zero put
  pub spelled_zeros : {F : B → Type 0} → Lawful d F → (z : B) → F z → d.encode z ≡ replicate d.size 0
      → Spells c (put x z) (sets bs at (replicate d.size 0))
  spelled_zeros D z h e =
      let zs : List ℕ = replicate d.size 0 in
      let n : length zs ≡ d.size = length-replicate {A = ℕ} d.size 0 in
      let w : Wrote bs at (d.encode z) (sets bs at zs) = record { is = rw e; kept = length-sets bs at zs } in
      record {
        bytes =
            rw (sets-eq zs bs at (omega (arith, f.inside, s.long)))
            (both_are (take at bs ++ zs) (drop (at + length zs) bs)
            (both_are (take at bs) zs (take_bytes at bs s.bytes) (λ i. omega (arith, replicate_zeros d.size i)))
            (drop_bytes (at + length zs) bs s.bytes));
        long = length-sets bs at zs ∙ s.long;
        stands = written_stands f D bs z s.long h w s.stands;
        is = written f D bs z s.long h w ∙ ap (λ (y : A). put y z) s.is;
      }
