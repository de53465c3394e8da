-- Bytes compared part by part, and those of a number by the number.
use Prim.Native.Nat.{◌^◌}
use mathlib.Core.Bool.{and_assoc}
use lib.Seq.{drop-drop, take-take}
use Rattle.base.{specs.Base.{ℕ, ◌+◌, ◌-◌, ◌<◌, ◌≡◌, Bool, ◌&&◌, List, [], ◌∷◌, ◌++◌, eqb, length, take, drop, same}, proofs.Laws.{refl, sym, ◌∙◌, ap, ap₂, arith, by_cases, refuted, eqb-true, eqb-false, same_is, same_self}}
use Rattle.little_endian.{specs.LittleEndian.{from_bytes, to_bytes, part, Bytes}, proofs.{Parts.drop-take, Numbers.{from_to, to_from}}}

-- a list against one list and another after it
pub same-split : (b xs ys : List ℕ) → same b (xs ++ ys) ≡ (same (take (length xs) b) xs && same (drop (length xs) b) ys)
unfolding same
same-split b [] ys = refl
same-split [] (x ∷ xs) ys = refl
same-split (y ∷ b) (x ∷ xs) ys =
    ap (λ (r : Bool). eqb y x && r) (same-split b xs ys)
    ∙ sym (and_assoc (eqb y x) (same (take (length xs) b) xs) (same (drop (length xs) b) ys))

-- the same of a part of a list
pub same_parts : (b : List ℕ) (at k n : ℕ) (xs ys : List ℕ) → length xs ≡ k
    → same (part b at (k + n)) (xs ++ ys) ≡ (same (part b at k) xs && same (part b (at + k) n) ys)
same_parts b at k n xs ys e =
    let left : k + n - k ≡ n = omega arith in
    same-split (part b at (k + n)) xs ys
    ∙ rw (e, take-take k (k + n) (drop at b) (omega arith), drop-take k (k + n) (drop at b), drop-drop k at b, left)

-- bytes are those of a number where they stand for it
pub same_number : (bs : List ℕ) (w x : ℕ) → Bytes bs → length bs ≡ w → x < 256 ^ w → same bs (to_bytes w x) ≡ eqb (from_bytes bs) x
same_number bs w x bytes e fits =
    by_cases (eqb (from_bytes bs) x)
    (λ t.
    let is : to_bytes w x ≡ bs = ap₂ to_bytes (sym e) (sym (eqb-true (from_bytes bs) x t)) ∙ to_from bs bytes in
    rw (is, t) (same_self bs))
    (λ f.
    rw f
    (refuted (same bs (to_bytes w x)) (λ s. eqb-false (from_bytes bs) x f (ap from_bytes (same_is bs (to_bytes w x) s) ∙ from_to w x fits))))
