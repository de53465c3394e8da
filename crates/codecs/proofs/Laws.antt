-- Each way to put forms together keeps their laws.
use Prim.Native.Nat.{ℕ, zero, suc, ◌*◌, ◌<◌, ◌≤◌, ◌^◌}
use borrow.Author.Tests.{ltb-true, lt-ltb}
use lib.{ListN.{length, get_or, set, take, drop, length-append, length-set, length-drop, take-append-drop}, Seq.{take_at, drop_at, length-take-le}}
use mathlib.Core.{Path.{◌≡◌, refl, sym, ◌∙◌, ap, ap₂, subst}, Bool.{true, and-eq-true_iff}, List.{List, [], ◌∷◌, ◌++◌}}
use native.Mathlib.{Nat.suc-mul, Omega.arith}
use Rattle.little_endian.{specs.LittleEndian.{from_bytes, to_bytes, Bytes}, proofs.Numbers.{from_to, to_from, from_lt, to_bytes-length}}
use Rattle.codecs.proofs.Bytes.{take_bytes, drop_bytes}
use Rattle.codecs.specs.Codec.{Codec, number, cases, ◌⊗◌, via, row, encode_row, decode_row, row_stands, Each, Below, RowFits, Lawful}

pub number_lawful : (w : ℕ) → Lawful (number w) (Below w)
number_lawful w =
    record {
      long = λ x h. to_bytes-length w x;
      back = λ x h. from_to w x h;
      forth = λ bs b l s. subst (λ (n : ℕ). to_bytes n (from_bytes bs) ≡ bs) l (to_from bs b);
      stand = λ x h. refl;
      fits = λ bs b l. subst (λ (n : ℕ). from_bytes bs < 256 ^ n) l (from_lt bs b);
    }

-- a number for each case, of which there are at most as many as two bytes can tell apart
pub cases_lawful : {A : Type 0} (n : ℕ) (to : ℕ → A) (from : A → ℕ) → n ≤ 65536 → ((x : A) → from x < n)
    → ((x : A) → to (from x) ≡ x) → ((k : ℕ) → k < n → from (to k) ≡ k) → Lawful (cases n to from) (λ x. Unit {0})
cases_lawful n to from few small there again =
    record {
      long = λ x h. to_bytes-length 2 (from x);
      back = λ x h. ap to (from_to 2 (from x) (let s = small x in omega arith)) ∙ there x;
      forth = λ bs b l s.
          ap (to_bytes 2) (again (from_bytes bs) (ltb-true _ _ s)) ∙ (number_lawful 2).forth bs b l refl;
      stand = λ x h. rw (from_to 2 (from x) (let s = small x in omega arith)) (lt-ltb _ _ (small x));
      fits = λ bs b l. tt;
    }

module _ {A B : Type 0} {c : Codec A} {d : Codec B} {F : A → Type 0} {G : B → Type 0} (C : Lawful c F) (D : Lawful d G) where
  pub both_lawful : Lawful (c ⊗ d) (λ p. F p.0 × G p.1)
  both_lawful =
      record {
        long = λ p h. rw (length-append, C.long p.0 h.0, D.long p.1 h.1);
        back = λ p h.
            let l = C.long p.0 h.0 in
            rw (take_at (c.encode p.0) (d.encode p.1) c.size l, drop_at (c.encode p.0) (d.encode p.1) c.size l)
            (λ i. (C.back p.0 h.0 i, D.back p.1 h.1 i));
        forth = λ bs b l s.
            let s' = (and-eq-true_iff _ _).0 s in
            ap₂ {A = List ℕ} {B = List ℕ} {C = List ℕ} ◌++◌
            (C.forth (take c.size bs) (take_bytes c.size bs b) (length-take-le c.size bs (omega arith)) s'.0)
            (D.forth (drop c.size bs) (drop_bytes c.size bs b) (rw length-drop (omega arith)) s'.1)
            ∙ take-append-drop c.size bs;
        stand = λ p h.
            let l = C.long p.0 h.0 in
            rw (take_at (c.encode p.0) (d.encode p.1) c.size l, drop_at (c.encode p.0) (d.encode p.1) c.size l)
            ((and-eq-true_iff _ _).1 (C.stand p.0 h.0, D.stand p.1 h.1));
        fits = λ bs b l. (
          C.fits (take c.size bs) (take_bytes c.size bs b) (length-take-le c.size bs (omega arith)),
          D.fits (drop c.size bs) (drop_bytes c.size bs b) (rw length-drop (omega arith)),
        );
      }

pub via_lawful : {A B : Type 0} {c : Codec A} {F : A → Type 0} {G : B → Type 0} (to : A → B) (from : B → A)
    → ((b : B) → to (from b) ≡ b) → ((a : A) → from (to a) ≡ a) → ((b : B) → G b → F (from b)) → ((a : A) → F a → G (to a))
    → Lawful c F → Lawful (via to from c) G
via_lawful {c = c} to from there again inward outward C =
    record {
      long = λ b h. C.long (from b) (inward b h);
      back = λ b h. ap to (C.back (from b) (inward b h)) ∙ there b;
      forth = λ bs b l s. ap c.encode (again (c.decode bs)) ∙ C.forth bs b l s;
      stand = λ b h. C.stand (from b) (inward b h);
      fits = λ bs b l. outward (c.decode bs) (C.fits bs b l);
    }

-- what each element has by its place
pub each_from : {A : Type 0} (F : A → Type 0) (z : A) (xs : List A) → ((i : ℕ) → i < length xs → F (get_or xs i z)) → Each F xs
unfolding Each
each_from F z [] h = tt
each_from F z (x ∷ xs) h = (h 0 (omega arith), each_from F z xs (λ i l. h (suc i) (omega arith)))

-- a row that fits does so with a value put that fits
module _ {A : Type 0} (F : A → Type 0) (y : A) (h : F y) where
  each_set : (xs : List A) (k : ℕ) → Each F xs → Each F (set xs k y)
  unfolding Each
  each_set [] k r = tt
  each_set (x ∷ xs) zero r = (h, r.1)
  each_set (x ∷ xs) (suc k) r = (r.0, each_set xs k r.1)

  pub set_fits : {n : ℕ} {xs : List A} (k : ℕ) → RowFits n F xs → RowFits n F (set xs k y)
  set_fits {n} {xs} k r = record { count = length-set xs k y ∙ r.count; each = each_set xs k r.each }

-- a row has as many values as it is read for
pub row_count : {A : Type 0} (c : Codec A) (n : ℕ) (bs : List ℕ) → length (decode_row c n bs) ≡ n
unfolding decode_row
row_count c zero bs = refl
row_count c (suc n) bs = ap suc (row_count c n (drop c.size bs))

-- what holds of every value read, and of the default, holds at each place of a row
pub decoded : {A : Type 0} (c : Codec A) (z : A) (P : A → Type 0) → ((bs : List ℕ) → P (c.decode bs)) → P z → (n k : ℕ) (bs : List ℕ)
    → P (get_or (decode_row c n bs) k z)
unfolding decode_row
decoded c z P h d zero k bs = d
decoded c z P h d (suc n) zero bs = h (take c.size bs)
decoded c z P h d (suc n) (suc k) bs = decoded c z P h d n k (drop c.size bs)

module _ {A : Type 0} {c : Codec A} {F : A → Type 0} (C : Lawful c F) where
  row_long : (xs : List A) → Each F xs → length (encode_row c xs) ≡ length xs * c.size
  unfolding encode_row Each
  row_long [] h = omega arith
  row_long (x ∷ xs) h =
      rw (length-append, suc-mul) (omega (arith, C.long x h.0, row_long xs h.1))

  row_back : (xs : List A) → Each F xs → decode_row c (length xs) (encode_row c xs) ≡ xs
  unfolding encode_row decode_row Each
  row_back [] h = refl
  row_back (x ∷ xs) h =
      let l = C.long x h.0 in
      rw (take_at (c.encode x) (encode_row c xs) c.size l, drop_at (c.encode x) (encode_row c xs) c.size l)
      (ap₂ {C = List A} (λ y ys. y ∷ ys) (C.back x h.0) (row_back xs h.1))

  row_stand : (xs : List A) → Each F xs → row_stands c (length xs) (encode_row c xs) ≡ true
  unfolding encode_row row_stands Each
  row_stand [] h = refl
  row_stand (x ∷ xs) h =
      let l = C.long x h.0 in
      rw (take_at (c.encode x) (encode_row c xs) c.size l, drop_at (c.encode x) (encode_row c xs) c.size l)
      ((and-eq-true_iff _ _).1 (C.stand x h.0, row_stand xs h.1))

  row_forth : (n : ℕ) (bs : List ℕ) → Bytes bs → length bs ≡ n * c.size → row_stands c n bs ≡ true
      → encode_row c (decode_row c n bs) ≡ bs
  unfolding encode_row decode_row row_stands
  row_forth zero [] b l s = refl
  row_forth zero (x ∷ bs) b l s = absurd (let z : ⊥ = omega arith in z)
  row_forth (suc n) bs b l s =
      let s' = (and-eq-true_iff _ _).0 s in
      let e = suc-mul n c.size in
      ap₂ {A = List ℕ} {B = List ℕ} {C = List ℕ} ◌++◌
      (C.forth (take c.size bs) (take_bytes c.size bs b) (length-take-le c.size bs (omega arith)) s'.0)
      (row_forth n (drop c.size bs) (drop_bytes c.size bs b) (rw length-drop (omega arith)) s'.1)
      ∙ take-append-drop c.size bs

  row_fits : (n : ℕ) (bs : List ℕ) → Bytes bs → length bs ≡ n * c.size → Each F (decode_row c n bs)
  unfolding decode_row Each
  row_fits zero bs b l = tt
  row_fits (suc n) bs b l =
      let e = suc-mul n c.size in (
        C.fits (take c.size bs) (take_bytes c.size bs b) (length-take-le c.size bs (omega arith)),
        row_fits n (drop c.size bs) (drop_bytes c.size bs b) (rw length-drop (omega arith)),
      )

  pub row_lawful : (n : ℕ) → Lawful (row c n) (RowFits n F)
  row_lawful n =
      record {
        long = λ xs h. row_long xs h.each ∙ ap (λ (k : ℕ). k * c.size) h.count;
        back = λ xs h. subst (λ (k : ℕ). decode_row c k (encode_row c xs) ≡ xs) h.count (row_back xs h.each);
        forth = row_forth n;
        stand = λ xs h. subst (λ (k : ℕ). row_stands c k (encode_row c xs) ≡ true) h.count (row_stand xs h.each);
        fits = λ bs b l. record { count = row_count c n bs; each = row_fits n bs b l };
      }

-- two lists of bytes that stand for one value are equal
pub same_bytes : {A : Type 0} {c : Codec A} {F : A → Type 0} (C : Lawful c F) (xs ys : List ℕ) → Bytes xs → Bytes ys
    → length xs ≡ c.size → length ys ≡ c.size → c.stands xs ≡ true → c.stands ys ≡ true → c.decode xs ≡ c.decode ys → xs ≡ ys
same_bytes {c = c} C xs ys a b la lb sa sb e =
    sym (C.forth xs a la sa) ∙ ap c.encode e ∙ C.forth ys b lb sb
