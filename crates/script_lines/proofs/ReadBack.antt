-- A number that is printed reads back as itself: its decimal digits are all there.
use Rattle.base.{specs.Base.{ℕ, zero, suc, ◌+◌, ◌-◌, ◌*◌, ◌≤◌, ◌<◌, ◌≡◌, true, List, [], ◌∷◌, some, get_or}, proofs.Laws.{refl, ◌∙◌, arith, by_cases, le-leb, and_both}}
use Prim.Native.Nat.{◌/◌, ◌%◌, ◌^◌}
use lib.Dec.{ltb}
use borrow.Author.Tests.{ltb-true, lt-ltb}
use native.Mathlib.Nat.{pow-suc, div-lt_iff_lt-mul}
use Rattle.script_lines.specs.{Lines.{most64, is_digit, digits_from, number}, Print.{digit, digits_onto, width_up_to, decimal_width, decimal_digits}}

-- the byte of a decimal digit
module _ (d : ℕ) (h : d < 10) where
  byte_is : digit d ≡ 0x30 + d
  unfolding digit
  byte_is = rw (lt-ltb d 10 h)

  byte_digit : is_digit (digit d) ≡ true
  unfolding is_digit
  byte_digit = rw byte_is (and_both (le-leb 0x30 (0x30 + d) (omega arith)) (le-leb (0x30 + d) 0x39 (omega arith)))

-- a tenth has one digit less
tenth : (width n : ℕ) → n < 10 ^ suc width → n / 10 < 10 ^ width
tenth width n h = (div-lt_iff_lt-mul {k = 10} {x = n} {y = 10 ^ width} (omega arith)).1 (rw pow-suc at h)

-- the lowest digits are the number, where it has no more
read_digits : (most width n : ℕ) (rest : List ℕ) → n < 10 ^ width → n ≤ most
    → digits_from most 0 (digits_onto 10 width n rest) ≡ digits_from most n rest
unfolding digits_onto digits_from
read_digits most zero n rest h k = let e : n ≡ 0 = omega arith in rw e
read_digits most (suc width) n rest h k =
    let q = n / 10 in
    let d = n % 10 in
    let e : q * 10 + (0x30 + d - 0x30) ≡ n = omega arith in
    read_digits most width q (digit d ∷ rest) (tenth width n h) (omega arith)
    ∙ rw (byte_digit d (omega arith), byte_is d (omega arith), e, le-leb n most k)

-- the first of them is a digit
first_digit : (width n : ℕ) (rest : List ℕ) → is_digit (get_or rest 0 0) ≡ true → is_digit (get_or (digits_onto 10 width n rest) 0 0) ≡ true
unfolding digits_onto
first_digit zero n rest h = h
first_digit (suc width) n rest h = first_digit width (n / 10) (digit (n % 10) ∷ rest) (byte_digit (n % 10) (omega arith))

-- a number has no more digits than are counted
width_holds : (more n : ℕ) → n < 10 ^ suc more → n < 10 ^ width_up_to more n
unfolding width_up_to
width_holds zero n h = h
width_holds (suc more) n h =
    by_cases (ltb n 10) (λ e. let k = ltb-true n 10 e in rw e (omega arith))
    (λ e.
    let k = width_holds more (n / 10) (tenth (suc more) n h) in
    rw (e, pow-suc) ((div-lt_iff_lt-mul {k = 10} {x = n} {y = 10 ^ width_up_to more (n / 10)} (omega arith)).0 k))

-- at least one digit is counted
width_some : (more n : ℕ) → (m : ℕ) × (width_up_to more n ≡ suc m)
unfolding width_up_to
width_some zero n = (0, refl)
width_some (suc more) n = by_cases (ltb n 10) (λ e. (0, rw e)) (λ e. (width_up_to more (n / 10), rw e))

pub read_back : (n : ℕ) → n ≤ most64 → number most64 (decimal_digits n) ≡ some (record { value = n; rest = [] })
unfolding number decimal_width digits_from digits_onto
read_back n h =
    let w = width_some 19 n in
    let f : is_digit (get_or (digits_onto 10 (width_up_to 19 n) n []) 0 0) ≡ true =
    rw w.1 (first_digit w.0 (n / 10) (digit (n % 10) ∷ []) (byte_digit (n % 10) (omega arith)))
    in
    rw f (read_digits most64 (width_up_to 19 n) n [] (width_holds 19 n (omega arith)) h)
