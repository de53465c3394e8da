-- Laws of valid units and names, as the code tests them.
use Rattle.base.{specs.Base.{ℕ, suc, ◌≤◌, ◌<◌, ◌≡◌, Bool, true, false, not, ◌&&◌, ◌||◌, List, [], ◌∷◌, eqb, leb, ltb, length, all, any, is_empty, one_of, same}, proofs.Laws.{refl, sym, ap, arith, by_cases, le-leb, lt-leb, leb_iff, refuted, not_both, and_left, and_right, empty_length, ne_eqb}}
use borrow.Author.Tests.{leb-false, lt-ltb}
use mathlib.Core.Bool.{and-true, or-false}
use Rattle.std.specs.{Cmp.Lexicographic.{pointwise}, List.{list_all}}
use Rattle.units.specs.Units.{backslash, colon, dot, forbidden}
use Rattle.names.specs.{Names.{lowest_unit, valid_unit, valid_units, valid_file_name}, declared.NameKind.{NameKind, TheVariants.{FileName, StreamName}}}

-- the library's test of each element, and its comparison of two lists, are those of the definitions

pub all_listed : {A : Type 0} (p : A → Bool) (xs : List A) → list_all p xs ≡ all p xs
unfolding all
all_listed p [] = refl
all_listed p (x ∷ xs) = ap (λ (b : Bool). p x && b) (all_listed p xs)

pub same_pointwise : (xs ys : List ℕ) → pointwise eqb xs ys ≡ same xs ys
unfolding same
same_pointwise [] [] = refl
same_pointwise [] (y ∷ ys) = refl
same_pointwise (x ∷ xs) [] = refl
same_pointwise (x ∷ xs) (y ∷ ys) = ap (λ (b : Bool). eqb x y && b) (same_pointwise xs ys)

-- `.` and `..`

abbrev pub dots : List ℕ → Bool
dots n = same n (dot ∷ []) || same n (dot ∷ dot ∷ [])

-- no name has a unit 0

zero_invalid : (k : NameKind) → valid_unit k 0 ≡ false
unfolding valid_unit lowest_unit
zero_invalid FileName = refl
zero_invalid StreamName = refl

pub no_zero : (k : NameKind) (us : List ℕ) → all (valid_unit k) (0 ∷ us) ≡ true → ⊥
unfolding all
no_zero k us h = not_both (and_left (valid_unit k 0) (all (valid_unit k) us) h) (zero_invalid k)

-- the kinds differ in units 1 to 31 alone: none of those is a sign

no_sign : (u : ℕ) (signs : List ℕ) → all (leb 0x20) signs ≡ true → u < 0x20 → one_of u signs ≡ false
unfolding one_of any all
no_sign u [] h below = refl
no_sign u (s ∷ signs) h below =
    rw (ne_eqb u s (λ e. let z : ⊥ = omega (arith, (leb_iff 0x20 s).0 (and_left (leb 0x20 s) (all (leb 0x20) signs) h)) in z))
    (no_sign u signs (and_right (leb 0x20 s) (all (leb 0x20) signs) h) below)

pub control_units : (u : ℕ) → valid_unit StreamName u ≡ (valid_unit FileName u || (leb 1 u && ltb u 0x20))
unfolding valid_unit lowest_unit all
control_units u =
    by_cases (leb 0x20 u)
    (λ e.
    let from = (leb_iff 0x20 u).0 e in
    rw (e, le-leb 1 u (omega arith), lt-leb (suc u) 0x20 (omega arith)) (sym (or-false _)))
    (λ e.
    let below = leb-false 0x20 u e in
    rw (e, no_sign u forbidden refl below, no_sign u (backslash ∷ colon ∷ []) refl below, lt-ltb u 0x20 below) (and-true _))

-- the units of a name, over the kind and the limit

module _ (k : NameKind) (limit : ℕ) (n : List ℕ) where
  pub units-long : limit < length n → valid_units k limit n ≡ false
  unfolding valid_units
  units-long h = rw (lt-leb (length n) limit h)

  pub units_short : length n ≤ limit → valid_units k limit n ≡ all (valid_unit k) n
  unfolding valid_units
  units_short h = rw (le-leb (length n) limit h)

  pub valid_fits : valid_units k limit n ≡ true → length n ≤ limit
  unfolding valid_units
  valid_fits h = (leb_iff (length n) limit).0 (and_left (leb (length n) limit) (all (valid_unit k) n) h)

  pub valid-each : valid_units k limit n ≡ true → all (valid_unit k) n ≡ true
  unfolding valid_units
  valid-each h = and_right (leb (length n) limit) (all (valid_unit k) n) h

-- file names, over the limit

module _ (limit : ℕ) (n : List ℕ) where
  -- their units are valid
  pub file_name_units : valid_file_name limit n ≡ true → valid_units FileName limit n ≡ true
  unfolding valid_file_name
  file_name_units h =
      and_right (not (is_empty n) && not (same n (dot ∷ [])) && not (same n (dot ∷ dot ∷ []))) (valid_units FileName limit n) h

  pub file_name_long : limit < length n → valid_file_name limit n ≡ false
  file_name_long h = refuted _ (λ v. not_both (file_name_units v) (units-long FileName limit n h))

  pub file_name_dots : dots n ≡ true → valid_file_name limit n ≡ false
  unfolding valid_file_name
  file_name_dots e = go (not (is_empty n)) (same n (dot ∷ [])) (same n (dot ∷ dot ∷ [])) e
    where
      go : (x one two : Bool) → (one || two) ≡ true → (x && not one && not two && valid_units FileName limit n) ≡ false
      go true true two e = refl
      go true false true e = refl
      go true false false e = cc
      go false one two e = refl

  pub file_name_other : (length n ≡ 0 → ⊥) → dots n ≡ false → valid_file_name limit n ≡ valid_units FileName limit n
  unfolding valid_file_name
  file_name_other some e = rw (← empty_length n, ne_eqb (length n) 0 some) (go (same n (dot ∷ [])) (same n (dot ∷ dot ∷ [])) e)
    where
      go : (one two : Bool) → (one || two) ≡ false → (not one && not two && valid_units FileName limit n) ≡ valid_units FileName limit n
      go true two e = cc
      go false true e = cc
      go false false e = refl
