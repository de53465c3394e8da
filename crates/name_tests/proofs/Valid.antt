-- The places of a well stored name: each is zero or valid exactly where the units are. And the dots.
use Rattle.base.{specs.Base.{ℕ, zero, suc, ◌-◌, ◌<◌, ◌≡◌, Bool, true, false, ◌&&◌, List, [], ◌∷◌, eqb, leb, length, get_or, drop, all, same, is_empty, replicate, padded, file_name_limit, stream_name_limit}, proofs.Laws.{refl, sym, ◌∙◌, ap, arith, by_cases, and_left, and_right, same_is, eqb-true, eqb-false, ne_eqb}}
use lib.Dec.{eqb-suc-zero}
use borrow.Author.Tests.{leb-true, leb-false}
use lib.ListN.{length-append, length-replicate}
use mathlib.Core.Bool.{and-true, and-false}
use Rattle.units.specs.Units.{dot}
use Rattle.names.{specs.{Names.{valid_unit, valid_units, valid_file_name, valid_stream_name}, declared.NameKind.{NameKind, TheVariants.{FileName, StreamName}}}, proofs.ValidNames.{dots, units-long, units_short, file_name_dots, file_name_long, file_name_other}}
use Rattle.stored_names.{specs.StoredNames.{units, well_stored}, proofs.{NameUnits.{units_end, units_next, units_none}, StoredUnits.{is_zero, well_stored_lem, units_fit, zeros_stored}}}
use Rattle.name_tests.specs.NameTests.{good_file_name, good_stream_name, fits_stored, zero_or_valid}

-- of a name of either kind
module _ (k : NameKind) where
  zeros_pass : (us : List ℕ) → all is_zero us ≡ true → all (zero_or_valid k) us ≡ true
  unfolding all
  zeros_pass [] h = refl
  zeros_pass (u ∷ us) h = rw (and_left (is_zero u) (all is_zero us) h) (zeros_pass us (and_right (is_zero u) (all is_zero us) h))

  units_pass : (n : List ℕ) → all is_zero (drop (length (units n)) n) ≡ true → all (zero_or_valid k) n ≡ all (valid_unit k) (units n)
  unfolding all units
  units_pass [] h = refl
  units_pass (zero ∷ us) h = zeros_pass us h
  units_pass (suc u ∷ us) h = rw (eqb-suc-zero u) (ap (λ (b : Bool). valid_unit k (suc u) && b) (units_pass us h))

  pub stored-valid : (n : List ℕ) → (well_stored (length n) n && all (zero_or_valid k) n) ≡ (well_stored (length n) n && valid_units k (length n) (units n))
  stored-valid n =
      by_cases (well_stored (length n) n)
      (λ e. rw (e, units_short k (length n) (units n) (units_fit n)) (units_pass n (sym (well_stored_lem n) ∙ e)))
      (λ e. rw e)

-- the dots, by the first three places

no_more : (us : List ℕ) → same us [] ≡ is_empty us
unfolding same is_empty
no_more [] = refl
no_more (u ∷ us) = refl

module _ (n : List ℕ) where
  pub dots_not : (get_or n 0 0 ≡ dot → ⊥) → dots (units n) ≡ false
  unfolding same
  dots_not ne =
      by_cases (eqb (get_or n 0 0) 0) (λ e. rw (units_end n 0 (eqb-true (get_or n 0 0) 0 e)))
      (λ e. rw (units_next n 0 (eqb-false (get_or n 0 0) 0 e), ne_eqb (get_or n 0 0) dot ne))

  module _ (first : get_or n 0 0 ≡ dot) where
    first_dot : units n ≡ dot ∷ units (drop 1 n)
    first_dot = units_next n 0 (λ z. let w : ⊥ = omega arith in w) ∙ ap (λ (u : ℕ). u ∷ units (drop 1 n)) first

    pub dots_one : get_or n 1 0 ≡ 0 → dots (units n) ≡ true
    unfolding same
    dots_one e = rw (first_dot, units_end n 1 e)

    pub dots_two : get_or n 1 0 ≡ dot → dots (units n) ≡ eqb (get_or n 2 0) 0
    unfolding same
    dots_two e =
        rw (first_dot, units_next n 1 (λ z. let w : ⊥ = omega arith in w), e) (no_more (units (drop 2 n)) ∙ units_none n 2)

    pub dots_other : (get_or n 1 0 ≡ 0 → ⊥) → (get_or n 1 0 ≡ dot → ⊥) → dots (units n) ≡ false
    unfolding same
    dots_other some ne = rw (first_dot, units_next n 1 some, ne_eqb (get_or n 1 0) dot ne)

-- a name of another length is not well stored, or has too many units
module _ (limit : ℕ) (n : List ℕ) (other : length n ≡ limit → ⊥) where
  stored-long : well_stored limit n ≡ true → limit < length (units n)
  unfolding well_stored padded
  stored-long h =
      let u = units n in
      let k = ap length (same_is n (padded limit u) h) ∙ length-append u (replicate (limit - length u) 0) in
      by_cases (leb (length u) limit)
      (λ e. absurd (other (omega (arith, leb-true (length u) limit e, k, length-replicate {A = ℕ} (limit - length u) 0))))
      (λ e. leb-false (length u) limit e)

  pub length_test : (valid : Bool) → (limit < length (units n) → valid ≡ false) → (well_stored limit n && valid) ≡ false
  length_test valid long = by_cases (well_stored limit n) (λ e. rw e (long (stored-long e))) (λ e. rw e)

-- whole names
module _ (n : List ℕ) where
  pub good_file_length : (length n ≡ file_name_limit → ⊥) → good_file_name n ≡ false
  unfolding good_file_name
  good_file_length h = length_test file_name_limit n h (valid_file_name file_name_limit (units n)) (file_name_long file_name_limit (units n))

  pub good_stream_length : (length n ≡ stream_name_limit → ⊥) → good_stream_name n ≡ false
  unfolding good_stream_name valid_stream_name
  good_stream_length h = length_test stream_name_limit n h (valid_stream_name stream_name_limit (units n)) (units-long StreamName stream_name_limit (units n))

  pub good_file_empty : get_or n 0 0 ≡ 0 → good_file_name n ≡ false
  unfolding good_file_name valid_file_name is_empty
  good_file_empty e = rw (good_file_name, units_end n 0 e) (and-false (well_stored file_name_limit n))

  pub good_file_dots : dots (units n) ≡ true → good_file_name n ≡ false
  unfolding good_file_name
  good_file_dots e = rw (good_file_name, file_name_dots file_name_limit (units n) e) (and-false (well_stored file_name_limit n))

  -- with the places of a record, the tests of all places decide
  module _ (long : length n ≡ file_name_limit) where
    pub good_file_other : (get_or n 0 0 ≡ 0 → ⊥) → dots (units n) ≡ false → (fits_stored n && all (zero_or_valid FileName) n) ≡ good_file_name n
    unfolding good_file_name
    good_file_other some e =
        rw (good_file_name, file_name_other file_name_limit (units n) (λ z. let w : ⊥ = omega (arith, ap length (units_next n 0 some)) in w) e, long)
        (rw long at (stored-valid FileName n))

  module _ (long : length n ≡ stream_name_limit) where
    pub good_stream_empty : get_or n 0 0 ≡ 0 → same n (replicate (length n) 0) ≡ good_stream_name n
    unfolding good_stream_name valid_stream_name valid_units all
    good_stream_empty e =
        rw (good_stream_name, units_end n 0 e, long)
        (sym (and-true (well_stored stream_name_limit n) ∙ zeros_stored stream_name_limit n e))

    pub good_stream_other : (fits_stored n && all (zero_or_valid StreamName) n) ≡ good_stream_name n
    unfolding good_stream_name valid_stream_name
    good_stream_other = rw (good_stream_name, long) (rw long at (stored-valid StreamName n))
