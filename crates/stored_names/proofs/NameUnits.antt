-- Laws of stored names: their units by places.
use Rattle.base.{specs.Base.{ℕ, zero, suc, ◌+◌, ◌≤◌, ◌<◌, ◌≡◌, Bool, false, List, [], ◌∷◌, is_empty, eqb, length, get_or, drop, same}, proofs.Laws.{refl, sym, ◌∙◌, by_cases, drop_of_length-le, eqb-true, eqb-false, eq-eqb, ne_eqb, drop_next, empty_is, same_differs, same_tail}}
use lib.Dec.{eqb-suc-zero}
use native.Mathlib.Numerals.{add-one}
use Rattle.units.{specs.Units.{folded, equal_units}, proofs.Compare.{equal_tail, equal_differs}}
use Rattle.stored_names.specs.StoredNames.{units}

-- there are no units from a place on exactly where a zero stands there, or the end
pub units_none : (n : List ℕ) (i : ℕ) → is_empty (units (drop i n)) ≡ eqb (get_or n i 0) 0
unfolding is_empty units
units_none [] zero = refl
units_none [] (suc i) = refl
units_none (zero ∷ us) zero = refl
units_none (suc u ∷ us) zero = sym (eqb-suc-zero u)
units_none (u ∷ us) (suc i) = units_none us i

pub units_end : (n : List ℕ) (i : ℕ) → get_or n i 0 ≡ 0 → units (drop i n) ≡ []
units_end n i e = empty_is (units (drop i n)) (units_none n i ∙ eq-eqb (get_or n i 0) 0 e)

units_suc : (n : List ℕ) (i : ℕ) → (get_or n i 0 ≡ 0 → ⊥) → units (drop i n) ≡ get_or n i 0 ∷ units (drop (suc i) n)
unfolding units
units_suc [] i ne = absurd (ne refl)
units_suc (zero ∷ us) zero ne = absurd (ne refl)
units_suc (suc u ∷ us) zero ne = refl
units_suc (u ∷ us) (suc i) ne = units_suc us i ne

-- a unit that is not zero, and those after it
pub units_next : (n : List ℕ) (i : ℕ) → (get_or n i 0 ≡ 0 → ⊥) → units (drop i n) ≡ get_or n i 0 ∷ units (drop (i + 1) n)
units_next n i ne = rw (add-one i) (units_suc n i ne)

-- two names from a place on, up to which both have units

nothing_same : (us : List ℕ) → same [] us ≡ is_empty us
unfolding same is_empty
nothing_same [] = refl
nothing_same (u ∷ us) = refl

module _ (a b : List ℕ) (i : ℕ) where
  -- the first has ended: so must the second
  pub units_ended : get_or a i 0 ≡ 0 → same (units (drop i a)) (units (drop i b)) ≡ eqb (get_or b i 0) 0
  units_ended e = rw (units_end a i e) (nothing_same (units (drop i b)) ∙ units_none b i)

  -- they are equal at the place, and what follows
  pub units_same_next : (get_or a i 0 ≡ 0 → ⊥) → get_or a i 0 ≡ get_or b i 0 → same (units (drop i a)) (units (drop i b)) ≡ same (units (drop (i + 1) a)) (units (drop (i + 1) b))
  units_same_next ne e =
      rw (units_next a i ne, units_next b i (λ z. ne (e ∙ z)))
      (same_tail (get_or a i 0) (get_or b i 0) (units (drop (i + 1) a)) (units (drop (i + 1) b)) e)

  -- they differ there
  pub units-differ : (get_or a i 0 ≡ get_or b i 0 → ⊥) → same (units (drop i a)) (units (drop i b)) ≡ false
  unfolding same
  units-differ ne =
      by_cases (eqb (get_or a i 0) 0)
      (λ p. let e = eqb-true (get_or a i 0) 0 p in units_ended e ∙ ne_eqb (get_or b i 0) 0 (λ z. ne (e ∙ sym z)))
      (λ p.
      by_cases (eqb (get_or b i 0) 0) (λ q. rw (units_next a i (eqb-false (get_or a i 0) 0 p), units_end b i (eqb-true (get_or b i 0) 0 q)))
      (λ q.
      rw (units_next a i (eqb-false (get_or a i 0) 0 p), units_next b i (eqb-false (get_or b i 0) 0 q))
      (same_differs (get_or a i 0) (get_or b i 0) (units (drop (i + 1) a)) (units (drop (i + 1) b)) ne)))

-- a stored name against a part of a path, from a place on

nothing_matches : (fold : Bool) (us : List ℕ) → equal_units fold us [] ≡ is_empty us
unfolding equal_units same is_empty
nothing_matches fold [] = refl
nothing_matches fold (u ∷ us) = refl

module _ (fold : Bool) (name part : List ℕ) (i : ℕ) where
  -- the name ends first
  pub name_ends : i < length part → get_or name i 0 ≡ 0 → equal_units fold (units (drop i name)) (drop i part) ≡ false
  unfolding equal_units same
  name_ends h e = rw (units_end name i e, drop_next part i 0 h)

  pub name_stops : i < length part → (get_or name i 0 ≡ 0 → ⊥) → (folded fold (get_or name i 0) ≡ folded fold (get_or part i 0) → ⊥) → equal_units fold (units (drop i name)) (drop i part) ≡ false
  name_stops h some ne =
      rw (units_next name i some, drop_next part i 0 h)
      (equal_differs fold (get_or name i 0) (get_or part i 0) (units (drop (i + 1) name)) (drop (i + 1) part) ne)

  pub name_next : i < length part → (get_or name i 0 ≡ 0 → ⊥) → folded fold (get_or name i 0) ≡ folded fold (get_or part i 0) → equal_units fold (units (drop i name)) (drop i part) ≡ equal_units fold (units (drop (i + 1) name)) (drop (i + 1) part)
  name_next h some e =
      rw (units_next name i some, drop_next part i 0 h)
      (equal_tail fold (get_or name i 0) (get_or part i 0) (units (drop (i + 1) name)) (drop (i + 1) part) e)

  -- the part has ended: so must the name
  pub name_end : length part ≤ i → equal_units fold (units (drop i name)) (drop i part) ≡ eqb (get_or name i 0) 0
  name_end h = rw (drop_of_length-le part h) (nothing_matches fold (units (drop i name)) ∙ units_none name i)
