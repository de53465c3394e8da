-- A name as it is stored, with zeros after it. A valid one's units are the name again, it is well stored, and it fills its
-- places.
use Rattle.base.{specs.Base.{ℕ, zero, suc, ◌-◌, ◌<◌, ◌≡◌, true, List, [], ◌∷◌, ◌++◌, ◌≢◌, length, get_or, take, replicate, all, is_empty, padded}, proofs.Laws.{refl, ◌∙◌, ap, false≢true, arith, length-take, length-replicate, take_all, and_right, same_self}}
use lib.{ListN.length-append, Seq.get_or-take}
use Rattle.names.{specs.{Names.{valid_unit, valid_units, valid_file_name}, declared.NameKind.{NameKind, TheVariants.FileName}}, proofs.ValidNames.{no_zero, valid_fits, valid-each, file_name_units}}
use Rattle.stored_names.specs.StoredNames.{units, well_stored}

-- the places up to a limit: the name's units, and zeros after them
zeros_after : (n : List ℕ) (k i : ℕ) → get_or (n ++ replicate k 0) i 0 ≡ get_or n i 0
zeros_after [] zero i = refl
zeros_after [] (suc k) zero = refl
zeros_after [] (suc k) (suc i) = zeros_after [] k i
zeros_after (u ∷ us) k zero = refl
zeros_after (u ∷ us) k (suc i) = zeros_after us k i

module _ (limit : ℕ) (n : List ℕ) where
  pub places_count : length (take limit (padded limit n)) ≡ limit
  unfolding padded
  places_count = simp (length-take, length-append, length-replicate) (omega arith)

  pub places_at : (i : ℕ) → i < limit → get_or (take limit (padded limit n)) i 0 ≡ get_or n i 0
  unfolding padded
  places_at i h = get_or-take limit (padded limit n) i 0 h ∙ zeros_after n (limit - length n) i

  -- a name with room is stored whole
  pub places_all : length (padded limit n) ≡ limit → take limit (padded limit n) ≡ padded limit n
  places_all e = take_all limit (padded limit n) (omega arith)

-- no valid unit is zero, so the first zero is the first after the name
no_units : (k : ℕ) → units (replicate k 0) ≡ []
unfolding units
no_units zero = refl
no_units (suc k) = refl

-- a valid name, of either kind
module _ (k : NameKind) where
  units_before : (n : List ℕ) (zeros : ℕ) → all (valid_unit k) n ≡ true → units (n ++ replicate zeros 0) ≡ n
  unfolding units all
  units_before [] zeros h = no_units zeros
  units_before (zero ∷ us) zeros h = absurd (no_zero k us h)
  units_before (suc u ∷ us) zeros h =
      ap (λ (l : List ℕ). suc u ∷ l) (units_before us zeros (and_right (valid_unit k (suc u)) (all (valid_unit k) us) h))

  module _ (limit : ℕ) (n : List ℕ) (valid : valid_units k limit n ≡ true) where
    pub units-padded : units (padded limit n) ≡ n
    unfolding padded
    units-padded = units_before n (limit - length n) (valid-each k limit n valid)

    pub padded-stored : well_stored limit (padded limit n) ≡ true
    unfolding well_stored
    padded-stored = rw units-padded (same_self (padded limit n))

    -- it fills its places
    pub padded_fills : length (padded limit n) ≡ limit
    unfolding padded
    padded_fills = simp (length-append, length-replicate) (omega (arith, valid_fits k limit n valid))

-- a file's name begins with a unit
pub padded_begins : (limit places : ℕ) (n : List ℕ) → valid_file_name limit n ≡ true → get_or (padded places n) 0 0 ≢ 0
unfolding valid_file_name padded is_empty
padded_begins limit places [] h = absurd (false≢true h)
padded_begins limit places (zero ∷ us) h =
    absurd (no_zero FileName us (valid-each FileName limit (zero ∷ us) (file_name_units limit (zero ∷ us) h)))
padded_begins limit places (suc u ∷ us) h = λ e. let z : ⊥ = omega arith in z
