-- Numbers in bytes: round trips, and a number in two halves.
use Prim.Native.Nat.{ℕ, zero, suc, ◌+◌, ◌*◌, ◌/◌, ◌%◌, ◌^◌, ◌<◌, ◌≤◌}
use lib.{ListN.{length, get_or, take, drop, length-drop}, Seq.{take-add, drop-drop, drop-cons, length-take-le}}
use mathlib.Core.{Path.{◌≡◌, refl, sym, ◌∙◌, ap}, List.{List, [], ◌∷◌, ◌++◌}}
use native.Mathlib.{Nat.{mod-add-div, mod-lt, mod-eq_of_lt, div-lt_iff_lt-mul, pow-zero, pow-suc, add-mul-mod_self_left, add-mul-div_left, div-eq_of_lt, zero-add, suc-add}, Omega.arith}
use Rattle.little_endian.proofs.Parts.{then}
use Rattle.little_endian.specs.{LittleEndian.{from_bytes, to_bytes, part, Bytes}, Writes.Wrote}

-- a number is its lowest byte and the rest
pub rejoined : (x : ℕ) → x % 256 + 256 * (x / 256) ≡ x
rejoined x = mod-add-div x 256

-- the rest of a number of a byte more fits
pub rest_lt : (w x : ℕ) → x < 256 ^ suc w → x / 256 < 256 ^ w
rest_lt w x h = (div-lt_iff_lt-mul {k = 256} {x = x} {y = 256 ^ w} (omega arith)).1 (rw pow-suc at h)

pub to_bytes-length : (w x : ℕ) → length (to_bytes w x) ≡ w
unfolding to_bytes
to_bytes-length zero x = refl
to_bytes-length (suc w) x = ap suc (to_bytes-length w (x / 256))

pub from_to : (w x : ℕ) → x < 256 ^ w → from_bytes (to_bytes w x) ≡ x
unfolding from_bytes to_bytes
from_to zero x h = let h' : x < 1 = rw pow-zero at h in omega arith
from_to (suc w) x h = rw (from_to w (x / 256) (rest_lt w x h)) (rejoined x)

pub tail_bytes : (b : ℕ) (bs : List ℕ) → Bytes (b ∷ bs) → Bytes bs
tail_bytes b bs h i = h (suc i)

pub to_from : (bs : List ℕ) → Bytes bs → to_bytes (length bs) (from_bytes bs) ≡ bs
unfolding from_bytes to_bytes
to_from [] h = refl
to_from (b ∷ bs) h =
    let m : (b + 256 * from_bytes bs) % 256 ≡ b = add-mul-mod_self_left b 256 _ ∙ mod-eq_of_lt (h 0) in
    let d : (b + 256 * from_bytes bs) / 256 ≡ from_bytes bs =
    add-mul-div_left b _ (omega arith) ∙ rw (div-eq_of_lt (h 0)) (zero-add _) in
    rw (m, d, to_from bs (tail_bytes b bs h))

pub from_lt : (bs : List ℕ) → Bytes bs → from_bytes bs < 256 ^ length bs
unfolding from_bytes
from_lt [] h = rw pow-zero (omega arith)
from_lt (b ∷ bs) h =
    let r = from_lt bs (tail_bytes b bs h) in
    let b' : b < 256 = h 0 in
    rw pow-suc (omega arith)

-- bytes in two parts: the first part and the rest above it
pub from-append : (xs ys : List ℕ) → from_bytes (xs ++ ys) ≡ from_bytes xs + 256 ^ length xs * from_bytes ys
unfolding from_bytes
from-append [] ys = rw pow-zero (omega arith)
from-append (x ∷ xs) ys = rw (from-append xs ys, pow-suc) (omega arith)

-- a number of n + m bytes at a place: n bytes, and m bytes after them
pub from-part : (l : List ℕ) (at n m : ℕ) → at + n ≤ length l
    → from_bytes (part l at (n + m)) ≡ from_bytes (part l at n) + 256 ^ n * from_bytes (part l (at + n) m)
from-part l at n m h =
    let e : length (part l at n) ≡ n = length-take-le n (drop at l) (rw length-drop (omega arith)) in
    ap from_bytes (take-add n m (drop at l))
    ∙ from-append (part l at n) (take m (drop n (drop at l)))
    ∙ rw (e, drop-drop)

-- the byte at a place, and the bytes after it
pub part_cons : (l : List ℕ) (at n : ℕ) → at < length l → part l at (suc n) ≡ get_or l at 0 ∷ part l (suc at) n
part_cons l at n h = rw (drop-cons l at 0 h)

pub to_sum : (n m lo hi : ℕ) → lo < 256 ^ n → to_bytes (n + m) (lo + 256 ^ n * hi) ≡ to_bytes n lo ++ to_bytes m hi
unfolding to_bytes
to_sum zero m lo hi h =
    let h' : lo < 1 = rw pow-zero at h in
    let e : lo + 256 ^ 0 * hi ≡ hi = rw pow-zero (omega arith) in
    rw (e, zero-add)
to_sum (suc n) m lo hi h =
    let e : lo + 256 ^ suc n * hi ≡ lo + 256 * (256 ^ n * hi) = rw pow-suc (omega arith) in
    let r : (lo + 256 * (256 ^ n * hi)) % 256 ≡ lo % 256 = add-mul-mod_self_left lo 256 _ in
    let d : (lo + 256 * (256 ^ n * hi)) / 256 ≡ lo / 256 + 256 ^ n * hi = add-mul-div_left lo (256 ^ n * hi) {y = 256} (omega arith) in
    rw (e, suc-add) (rw (r, d) (ap {B = List ℕ} (λ t. lo % 256 ∷ t) (to_sum n m (lo / 256) hi (rest_lt n lo h))))

-- a number written as n bytes and, after them, the m bytes above
pub halves : {l k o : List ℕ} (at n m x : ℕ) → 0 < 256 ^ n → Wrote l at (to_bytes n (x % 256 ^ n)) k
    → Wrote k (at + n) (to_bytes m (x / 256 ^ n)) o → Wrote l at (to_bytes (n + m) x) o
halves {l} {k} {o} at n m x p a b =
    let lo = x % 256 ^ n in
    let hi = x / 256 ^ n in
    let e : to_bytes (n + m) x ≡ to_bytes n lo ++ to_bytes m hi =
    ap (to_bytes (n + m)) (sym (mod-add-div x (256 ^ n))) ∙ to_sum n m lo hi (mod-lt x p) in
    rw e (then a (rw (to_bytes-length n lo) b))

-- a number written, and something after it
pub after : (w x : ℕ) {l k o ys : List ℕ} {at at' : ℕ} → at' ≡ at + w → Wrote l at (to_bytes w x) k → Wrote k at' ys o
    → Wrote l at (to_bytes w x ++ ys) o
after w x {at = at} e a b = then a (rw (to_bytes-length w x, ← e) b)
