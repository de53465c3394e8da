-- What is printed, written into an array from the front.
use Rattle.base.{specs.Base.{ℕ, suc, ◌+◌, ◌-◌, ◌≤◌, ◌<◌, ◌≡◌, List, [], ◌∷◌, ◌++◌, length, set, take, drop, Seen}, proofs.Laws.{refl, sym, ◌∙◌, ap, ap₂, arith, length-set, get_or-set_same}}
use Prim.Native.Nat.{◌/◌, ◌%◌}
use lib.Seq.{take-suc-set, take-set-le, drop-set-lt, drop-cons, take-add}
use mathlib.Core.List.{append_assoc}
use native.Mathlib.Numerals.{add-one}
use Rattle.script_lines.specs.{Lines.space, Print.{digit, digits_onto, digits, line_end, decimal_width, action_byte, printed}}

-- one byte more
pub put_byte : (bytes text : List ℕ) (n byte : ℕ) → take n bytes ≡ text → n < length bytes
    → take (n + 1) (set bytes n byte) ≡ text ++ (byte ∷ [])
put_byte bytes text n byte e h = rw (add-one, take-suc-set bytes n byte h, e)

-- the last digits written after a place: those of `left` come before them, i in number
pub record Written (start : List ℕ) (at base width number : ℕ) (out : List ℕ) (left i : ℕ) : Type 0 where
  pub room : i ≤ width
  pub long : length out ≡ length start
  pub before : take at out ≡ take at start
  pub is : digits base width number ≡ digits_onto base i left (take (width - i) (drop (at + i) out))

module _ {start : List ℕ} {at base width number : ℕ} where
  pub write_none : Written start at base width number start number width
  unfolding digits_onto
  write_none =
      let e : width - width ≡ 0 = omega arith in
      record { room = omega arith; long = refl; before = refl; is = rw e }

  module _ {out : List ℕ} {left i : ℕ} (w : Written start at base width number out left i) where
    -- one digit more, before the others
    pub write_next : (byte : ℕ) → byte ≡ digit (left % base) → 0 < i → at + width ≤ length start
        → Written start at base width number (set out (at + (i - 1)) byte) (left / base) (i - 1)
    unfolding digits_onto
    write_next byte e p h =
        let k = w.long in
        let r = w.room in
        let j = i - 1 in
        let n : i ≡ suc j = omega arith in
        let m : width - j ≡ suc (width - i) = omega arith in
        let a : suc (at + j) ≡ at + i = omega arith in
        let d : drop (at + j) (set out (at + j) byte) ≡ byte ∷ drop (at + i) out =
        drop-cons (set out (at + j) byte) (at + j) 0 (rw (length-set out (at + j) byte) (omega arith))
        ∙ ap₂ (λ (x : ℕ) (xs : List ℕ). x ∷ xs) (get_or-set_same out (at + j) byte 0 (omega arith))
        (drop-set-lt (suc (at + j)) out (at + j) byte (omega arith) ∙ ap (λ (t : ℕ). drop t out) a)
        in
        record {
          room = omega arith;
          long = length-set out (at + j) byte ∙ k;
          before = take-set-le at out (at + j) byte (omega arith) ∙ w.before;
          is =
              w.is
              ∙ ap (λ (t : ℕ). digits_onto base t left (take (width - i) (drop (at + i) out))) n
              ∙ ap (λ (x : ℕ). digits_onto base j (left / base) (x ∷ take (width - i) (drop (at + i) out))) (sym e)
              ∙ ap (λ (t : List ℕ). digits_onto base j (left / base) t) (sym (rw (m, d)));
        }

    pub write_all : i ≡ 0 → take (at + width) out ≡ take at start ++ digits base width number
    unfolding digits_onto
    write_all e =
        let f : digits base width number ≡ take width (drop at out) =
        w.is
        ∙ ap (λ (t : ℕ). digits_onto base t left (take (width - i) (drop (at + i) out))) e
        ∙ ap₂ (λ (n t : ℕ). take n (drop t out)) (let z : width - i ≡ width = omega arith in z) (let z : at + i ≡ at = omega arith in z)
        in
        rw (take-add at width out, w.before, f)

-- the status, a space, the action and a space
pub put_action : (bytes text : List ℕ) (action : ℕ) → take 8 bytes ≡ text → length bytes ≡ 32
    → take 11 (set (set (set bytes 8 space) 9 action) 10 space) ≡ text ++ (space ∷ action ∷ space ∷ [])
put_action bytes text action e h =
    put_byte (set (set bytes 8 space) 9 action) ((text ++ (space ∷ [])) ++ (action ∷ [])) 10 space
    (put_byte (set bytes 8 space) (text ++ (space ∷ [])) 9 action (put_byte bytes text 8 space e (omega arith)) (simp length-set (omega arith)))
    (simp length-set (omega arith))
    ∙ simp append_assoc

-- the parts of a reply, one after the other
module _ (s : Seen) (status action handle width : ℕ) where
  pub put_reply : status ≡ s.status → action ≡ action_byte s.action → handle ≡ s.handle → width ≡ decimal_width handle
      → ((digits 16 8 status ++ (space ∷ action ∷ space ∷ [])) ++ digits 10 width handle) ++ (line_end ∷ []) ≡ printed s
  unfolding printed
  put_reply e f g h = rw (h, e, f, g) (simp append_assoc)
