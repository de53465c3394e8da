-- Fields of forms: the whole, the first and the rest of two, a row's slot, a field of a field; and a field written whole.
use Prim.Native.Nat.{ℕ, zero, suc, ◌+◌, ◌*◌, ◌<◌, ◌≤◌}
use lib.{ListN.{length, take, drop, set, get_or, length-drop, get_or-eq_default}, Seq.{sets, drop-drop, length-take-le, take_all, set_out}}
use mathlib.Core.{Path.{◌≡◌, sym, ◌∙◌, ap, subst}, Bool.{true, and-eq-true_iff}, List.{List, ◌∷◌}}
use native.Mathlib.{Nat.{mul-le-mul_left, mul-suc, mul-zero, add-zero, zero-add, add_assoc, add_comm}, Omega.arith}
use Rattle.little_endian.{specs.{LittleEndian.part, Writes.Wrote}, proofs.Parts.{take_sets_past, take_sets_within, drop_sets_within, drop_sets_past, sets_all, take_drop_take}}
use Rattle.codecs.proofs.Laws.{row_count}
use Rattle.codecs.specs.{Codec.{Codec, ◌⊗◌, via, row, decode_row, row_stands, Lawful}, Field.Field}

pub part_length : (l : List ℕ) (at n : ℕ) → at + n ≤ length l → length (part l at n) ≡ n
part_length l at n h = length-take-le n (drop at l) (rw length-drop (omega arith))

-- a part of a part
pub part-part : (l : List ℕ) (at m k n : ℕ) → k + n ≤ m → part (part l at m) k n ≡ part l (at + k) n
part-part l at m k n h = take_drop_take n k m (drop at l) h ∙ rw drop-drop

pub whole : {A : Type 0} (c : Codec A) → Field c c 0 (λ x. x) (λ x y. y)
whole c =
    record {
      inside = omega arith;
      reads = λ bs l. ap c.decode (sym (take_all c.size bs (omega arith)));
      writes = λ bs j xs l h. rw (take_all c.size bs (omega arith), zero-add);
      held = λ bs l s. rw (take_all c.size bs (omega arith)) s;
      stays = λ bs j xs l h s t. rw zero-add (rw (take_all c.size bs (omega arith)) at t);
    }

module _ {A B D : Type 0} {d : Codec D} {at : ℕ} where
  pub first : {c : Codec A} (e : Codec B) {g : A → D} {p : A → D → A} → Field c d at g p
      → Field (c ⊗ e) d at (λ x. g x.0) (λ x y. (p x.0 y, x.1))
  first {c} e {g} {p} f =
      let i = f.inside in
      record {
        inside = omega arith;
        reads = λ bs l.
            f.reads (take c.size bs) (length-take-le c.size bs (omega arith))
            ∙ ap d.decode (take_drop_take d.size at c.size bs i);
        writes = λ bs j xs l h.
            let w = f.writes (take c.size bs) j xs (length-take-le c.size bs (omega arith)) h in
            let w' = rw (take_drop_take d.size at c.size bs i) at w in
            rw (take_sets_within c.size bs (at + j) xs (omega arith), drop_sets_within c.size bs (at + j) xs (omega arith))
            (λ t. (w' t, e.decode (drop c.size bs)));
        held = λ bs l s.
            rw (take_drop_take d.size at c.size bs i)
            at (f.held (take c.size bs) (length-take-le c.size bs (omega arith)) ((and-eq-true_iff _ _).0 s).0);
        stays = λ bs j xs l h s t.
            let s' = (and-eq-true_iff (c.stands (take c.size bs)) (e.stands (drop c.size bs))).0 s in
            let t' : d.stands (sets (part (take c.size bs) at d.size) j xs) ≡ true =
            rw (take_drop_take d.size at c.size bs i) t in
            rw (take_sets_within c.size bs (at + j) xs (omega arith), drop_sets_within c.size bs (at + j) xs (omega arith))
            ((and-eq-true_iff _ _).1
            (f.stays (take c.size bs) j xs (length-take-le c.size bs (omega arith)) h s'.0 t', s'.1));
      }

  pub rest : (c : Codec A) {e : Codec B} {g : B → D} {p : B → D → B} → Field e d at g p
      → Field (c ⊗ e) d (c.size + at) (λ x. g x.1) (λ x y. (x.0, p x.1 y))
  rest c {e} {g} {p} f =
      let i = f.inside in
      record {
        inside = omega arith;
        reads = λ bs l. f.reads (drop c.size bs) (rw length-drop (omega arith)) ∙ rw drop-drop;
        writes = λ bs j xs l h.
            let w = f.writes (drop c.size bs) j xs (rw length-drop (omega arith)) h in
            let w' = rw drop-drop at w in
            rw (add_assoc, take_sets_past c.size bs (c.size + (at + j)) xs (omega arith), drop_sets_past c.size bs (at + j) xs)
            (λ t. (c.decode (take c.size bs), w' t));
        held = λ bs l s.
            let s' = (and-eq-true_iff (c.stands (take c.size bs)) (e.stands (drop c.size bs))).0 s in
            rw drop-drop at (f.held (drop c.size bs) (rw length-drop (omega arith)) s'.1);
        stays = λ bs j xs l h s t.
            let s' = (and-eq-true_iff (c.stands (take c.size bs)) (e.stands (drop c.size bs))).0 s in
            let t' : d.stands (sets (part (drop c.size bs) at d.size) j xs) ≡ true = rw drop-drop t in
            rw (add_assoc, take_sets_past c.size bs (c.size + (at + j)) xs (omega arith), drop_sets_past c.size bs (at + j) xs)
            ((and-eq-true_iff _ _).1 (s'.0, f.stays (drop c.size bs) j xs (rw length-drop (omega arith)) h s'.1 t'));
      }

  pub through : {c : Codec A} (to : A → B) (from : B → A) {g : A → D} {p : A → D → A} → ((a : A) → from (to a) ≡ a)
      → Field c d at g p → Field (via to from c) d at (λ b. g (from b)) (λ b y. to (p (from b) y))
  through {c} to from {g} {p} again f =
      record {
        inside = f.inside;
        reads = λ bs l. ap g (again (c.decode bs)) ∙ f.reads bs l;
        writes = λ bs j xs l h. rw (again (c.decode bs)) (ap to (f.writes bs j xs l h));
        held = f.held;
        stays = f.stays;
      }

module _ {A : Type 0} (c : Codec A) (z : A) where
  slot_reads : (n k : ℕ) → k < n → (bs : List ℕ) → get_or (decode_row c n bs) k z ≡ c.decode (part bs (c.size * k) c.size)
  unfolding decode_row
  slot_reads zero k h bs = absurd (let z : ⊥ = omega arith in z)
  slot_reads (suc n) zero h bs = rw mul-zero
  slot_reads (suc n) (suc k) h bs =
      let e : c.size * suc k ≡ c.size + c.size * k = mul-suc _ _ ∙ add_comm _ _ in
      slot_reads n k (omega arith) (drop c.size bs) ∙ rw (e, drop-drop)

  slot_writes : (n k : ℕ) → k < n → (bs : List ℕ) (j : ℕ) (xs : List ℕ) → j + length xs ≤ c.size
      → decode_row c n (sets bs (c.size * k + j) xs) ≡ set (decode_row c n bs) k (c.decode (sets (part bs (c.size * k) c.size) j xs))
  unfolding decode_row
  slot_writes zero k h bs j xs l = absurd (let z : ⊥ = omega arith in z)
  slot_writes (suc n) zero h bs j xs l =
      rw (mul-zero, zero-add, take_sets_within c.size bs j xs l, drop_sets_within c.size bs j xs l)
  slot_writes (suc n) (suc k) h bs j xs l =
      let e : c.size * suc k ≡ c.size + c.size * k = mul-suc _ _ ∙ add_comm _ _ in
      let w = slot_writes n k (omega arith) (drop c.size bs) j xs l in
      rw (e, add_assoc, take_sets_past c.size bs (c.size + (c.size * k + j)) xs (omega arith), drop_sets_past c.size bs (c.size * k + j) xs)
      (ap {B = List A} (λ r. c.decode (take c.size bs) ∷ r) (rw drop-drop at w))

  slot_held : (n k : ℕ) → k < n → (bs : List ℕ) → row_stands c n bs ≡ true → c.stands (part bs (c.size * k) c.size) ≡ true
  unfolding row_stands
  slot_held zero k h bs s = absurd (let z : ⊥ = omega arith in z)
  slot_held (suc n) zero h bs s = rw mul-zero ((and-eq-true_iff _ _).0 s).0
  slot_held (suc n) (suc k) h bs s =
      let e : c.size * suc k ≡ c.size + c.size * k = mul-suc _ _ ∙ add_comm _ _ in
      let s' = (and-eq-true_iff (c.stands (take c.size bs)) (row_stands c n (drop c.size bs))).0 s in
      rw (e, ← (drop-drop (c.size * k) c.size bs)) (slot_held n k (omega arith) (drop c.size bs) s'.1)

  slot_stays : (n k : ℕ) → k < n → (bs : List ℕ) (j : ℕ) (xs : List ℕ) → j + length xs ≤ c.size → row_stands c n bs ≡ true
      → c.stands (sets (part bs (c.size * k) c.size) j xs) ≡ true → row_stands c n (sets bs (c.size * k + j) xs) ≡ true
  unfolding row_stands
  slot_stays zero k h bs j xs l s t = absurd (let z : ⊥ = omega arith in z)
  slot_stays (suc n) zero h bs j xs l s t =
      let s' = (and-eq-true_iff (c.stands (take c.size bs)) (row_stands c n (drop c.size bs))).0 s in
      rw (mul-zero, zero-add, take_sets_within c.size bs j xs l, drop_sets_within c.size bs j xs l)
      ((and-eq-true_iff _ _).1 (rw mul-zero at t, s'.1))
  slot_stays (suc n) (suc k) h bs j xs l s t =
      let e : c.size * suc k ≡ c.size + c.size * k = mul-suc _ _ ∙ add_comm _ _ in
      let s' = (and-eq-true_iff (c.stands (take c.size bs)) (row_stands c n (drop c.size bs))).0 s in
      let t' = rw (e, ← (drop-drop (c.size * k) c.size bs)) at t in
      rw (e, add_assoc, take_sets_past c.size bs (c.size + (c.size * k + j)) xs (omega arith), drop_sets_past c.size bs (c.size * k + j) xs)
      ((and-eq-true_iff _ _).1 (s'.0, slot_stays n k (omega arith) (drop c.size bs) j xs l s'.1 t'))

  pub slot : (n k : ℕ) → k < n → Field (row c n) c (c.size * k) (λ xs. get_or xs k z) (λ xs y. set xs k y)
  slot n k h =
      record {
        inside = omega (arith, mul-le-mul_left c.size h);
        reads = λ bs l. slot_reads n k h bs;
        writes = λ bs j xs l m. slot_writes n k h bs j xs m;
        held = λ bs l s. slot_held n k h bs s;
        stays = λ bs j xs l m s t. slot_stays n k h bs j xs m s t;
      }

-- a field of a field
pub inner : {A B D : Type 0} {c : Codec A} {d : Codec B} {e : Codec D} {at at' : ℕ} {g : A → B} {p : A → B → A} {g' : B → D} {p' : B → D → B}
    → Field c d at g p → Field d e at' g' p' → Field c e (at + at') (λ x. g' (g x)) (λ x y. p x (p' (g x) y))
inner {c = c} {d = d} {e = e} {at = at} {at' = at'} {g = g} {p = p} {g' = g'} {p' = p'} f f' =
    let i = f.inside in
    let i' = f'.inside in
    record {
      inside = omega arith;
      reads = λ bs l.
          ap g' (f.reads bs l) ∙ f'.reads (part bs at d.size) (part_length bs at d.size (omega arith))
          ∙ ap e.decode (part-part bs at d.size at' e.size i');
      writes = λ bs j xs l h.
          let w = f.writes bs (at' + j) xs l (omega arith) in
          let w' = f'.writes (part bs at d.size) j xs (part_length bs at d.size (omega arith)) h in
          rw add_assoc (w ∙ ap (p (c.decode bs)) (rw (part-part bs at d.size at' e.size i', ← (f.reads bs l)) at w'));
      held = λ bs l s.
          rw (part-part bs at d.size at' e.size i')
          at (f'.held (part bs at d.size) (part_length bs at d.size (omega arith)) (f.held bs l s));
      stays = λ bs j xs l h s t.
          let t' : e.stands (sets (part (part bs at d.size) at' e.size) j xs) ≡ true =
          rw (part-part bs at d.size at' e.size i') t in
          rw add_assoc
          (f.stays bs (at' + j) xs l (omega arith) s
          (f'.stays (part bs at d.size) j xs (part_length bs at d.size (omega arith)) h (f.held bs l s) t'));
    }

-- a field written whole is put
pub written : {A B : Type 0} {c : Codec A} {d : Codec B} {at : ℕ} {g : A → B} {p : A → B → A} {F : B → Type 0}
    → Field c d at g p → Lawful d F → (bs : List ℕ) (x : B) {m : List ℕ} → length bs ≡ c.size → F x → Wrote bs at (d.encode x) m
    → c.decode m ≡ p (c.decode bs) x
written {c = c} {d = d} {at = at} {p = p} f law bs x {m} l h w =
    let i = f.inside in
    let n = law.long x h in
    ap c.decode w.is
    ∙ rw (add-zero at) at (f.writes bs 0 (d.encode x) l (omega arith))
    ∙ ap (p (c.decode bs))
    (ap d.decode (sets_all (part bs at d.size) (d.encode x) (part_length bs at d.size (omega arith) ∙ sym n)) ∙ law.back x h)

-- and what stands for a value does so still
pub written_stands : {A B : Type 0} {c : Codec A} {d : Codec B} {at : ℕ} {g : A → B} {p : A → B → A} {F : B → Type 0}
    → Field c d at g p → Lawful d F → (bs : List ℕ) (x : B) {m : List ℕ} → length bs ≡ c.size → F x → Wrote bs at (d.encode x) m
    → c.stands bs ≡ true → c.stands m ≡ true
written_stands {c = c} {d = d} {at = at} f law bs x {m} l h w s =
    let i = f.inside in
    let n = law.long x h in
    let e = sets_all (part bs at d.size) (d.encode x) (part_length bs at d.size (omega arith) ∙ sym n) in
    rw w.is (rw (add-zero at) at (f.stays bs 0 (d.encode x) l (omega arith) s (rw e (law.stand x h))))

-- the same place by another sum
pub moved : {A B : Type 0} {c : Codec A} {d : Codec B} {at at' : ℕ} {g : A → B} {p : A → B → A} → at ≡ at'
    → Field c d at g p → Field c d at' g p
moved {c = c} {d = d} {g = g} {p = p} e f = subst (λ (k : ℕ). Field c d k g p) e f

-- a field of a field that stands first in it
pub inner_first : {A B D : Type 0} {c : Codec A} {d : Codec B} {e : Codec D} {at : ℕ} {g : A → B} {p : A → B → A} {g' : B → D} {p' : B → D → B}
    → Field c d at g p → Field d e 0 g' p' → Field c e at (λ x. g' (g x)) (λ x y. p x (p' (g x) y))
inner_first f f' = moved (add-zero _) (inner f f')

-- past a row's end stands the default, and nothing is set
pub row_past : {A : Type 0} (c : Codec A) (z : A) (n k : ℕ) (bs : List ℕ) → n ≤ k → get_or (decode_row c n bs) k z ≡ z
row_past c z n k bs h = get_or-eq_default (decode_row c n bs) z {n = k} (rw row_count h)

pub row_out : {A : Type 0} (c : Codec A) (x : A) (n k : ℕ) (bs : List ℕ) → n ≤ k → set (decode_row c n bs) k x ≡ decode_row c n bs
row_out c x n k bs h = set_out (decode_row c n bs) k x (rw row_count h)
