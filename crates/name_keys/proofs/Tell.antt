-- Keys tell names apart: slots of a table whose keys are distinct have different names, or names in different places.
use Rattle.base.{specs.Base.{ℕ, ◌≡◌, Bool, true, not, ◌&&◌, List, map, eqb, same, keep, pairs}, proofs.Laws.{ap₂, arith, eqb-true, ne_eqb, not_is, not-false, by_cases, and_left, and_right, same_is}}
use Rattle.distinct.{specs.Keys.{is_key, differ}, proofs.Tells.{Tells, told}}
use Rattle.stored_names.specs.StoredNames.{units}
use Rattle.name_keys.specs.NameKeys.{name_key}
use Rattle.name_keys.proofs.Weights.{slot_key}

-- a name has a key
name_is_key : (number : ℕ) (us : List ℕ) → is_key (name_key number us) ≡ true
unfolding is_key name_key
name_is_key number us = not_is (ne_eqb (name_key number us) 0 (λ e. let z : ⊥ = omega arith in z))

module _ {A : Type 0} (used : A → Bool) (number : A → ℕ) (name : A → List ℕ) where
  -- the key of a slot, by the units of its name
  abbrev pub key_of : A → ℕ
  key_of x = slot_key (used x) (number x) (units (name x))

  -- two slots differ in number or name
  abbrev pub names_differ : A → A → Bool
  names_differ x y = not (eqb (number x) (number y) && same (units (name x)) (units (name y)))

  pub own_key : (x : A) → is_key (key_of x) ≡ used x
  unfolding slot_key is_key
  own_key x = by_cases (used x) (λ e. rw e (name_is_key (number x) (units (name x)))) (λ e. rw e)

  names_tell : Tells key_of used own_key names_differ
  unfolding slot_key
  names_tell x y u v f =
      let e = not-false (eqb (number x) (number y) && same (units (name x)) (units (name y))) f in
      rw (u, v)
      (ap₂ name_key (eqb-true (number x) (number y) (and_left (eqb (number x) (number y)) _ e))
      (same_is (units (name x)) (units (name y)) (and_right (eqb (number x) (number y)) _ e)))

  pub names_told : (d : A) (xs : List A) → pairs differ (keep is_key (map key_of xs)) ≡ true → pairs names_differ (keep used xs) ≡ true
  names_told d xs h = told key_of used own_key names_differ names_tell d xs h
