-- A table whose records are all changed alike, so that a free one stays free and what is asked of a used one still holds; and a
-- table of free slots.
use Rattle.base.{specs.Base.{ℕ, zero, suc, ◌≡◌, Bool, true, false, not, List, eqb, map, get_or, replicate, count}, proofs.Laws.{refl, sym, ◌∙◌, ap, length-map, length-replicate, get_or_map, not_both, cond_cases, any_of, count_some, count_places}}
use Rattle.lists.proofs.Places.{used_below}
use Rattle.consistency.specs.Slots.{Slots, EveryTwo, slot_test}

-- each place of the changed table
pub map_at : {A : Type 0} (f : A → A) (z : A) → f z ≡ z → (xs : List A) (i : ℕ) → get_or (map f xs) i z ≡ f (get_or xs i z)
map_at {A} f z fz xs i = ap (λ (d : A). get_or (map f xs) i d) (sym fz) ∙ get_or_map f xs i z

module _ {A : Type 0} (z : A) (f : A → A) (fz : f z ≡ z) (xs : List A) where
  -- a test that the change keeps counts the same
  pub map-count : (p : A → Bool) → ((x : A) → p (f x) ≡ p x) → count p (map f xs) ≡ count p xs
  map-count p same =
      count_places p z (map f xs) xs (length-map xs f) (λ i. ap p (map_at f z fz xs i) ∙ same (get_or xs i z))

  module _ (used : A → Bool) (same : (x : A) → used (f x) ≡ used x) where
    used_before : (i : ℕ) {b : Bool} → used (get_or (map f xs) i z) ≡ b → used (get_or xs i z) ≡ b
    used_before i u = sym (ap used (map_at f z fz xs i) ∙ same (get_or xs i z)) ∙ u

    pub slots_changed : {Good Good' : A → Type 0} {n : ℕ} → ((x : A) → used x ≡ true → Good x → Good' (f x))
        → Slots used z Good n xs → Slots used z Good' n (map f xs)
    slots_changed {Good' = Good'} good s =
        record {
          size = length-map xs f ∙ s.size;
          free_zero = λ i u. map_at f z fz xs i ∙ ap f (s.free_zero i (used_before i u)) ∙ fz;
          used_good =
              λ i u.
              let w = used_before i u in
              rw (map_at f z fz xs i) (good (get_or xs i z) w (s.used_good i w));
        }

    pub two_changed : (R : A → A → Type 0) → ((x y : A) → R x y → R (f x) (f y)) → EveryTwo used z R xs
        → EveryTwo used z R (map f xs)
    two_changed R keeps t i j b u w =
        rw (map_at f z fz xs i, map_at f z fz xs j)
        (keeps (get_or xs i z) (get_or xs j z) (t i j b (used_before i u) (used_before j w)))

-- a slot by itself: tests that hold of a used one and of a free one
module _ {A : Type 0} {used : A → Bool} {z : A} {Good : A → Type 0} {n : ℕ} {xs : List A} (s : Slots used z Good n xs) where
  pub slot_passes : (good is_zero : A → Bool) → ((x : A) → used x ≡ true → Good x → good x ≡ true) → is_zero z ≡ true
      → (i : ℕ) → slot_test used good is_zero (get_or xs i z) ≡ true
  slot_passes good is_zero passes free i =
      let x = get_or xs i z in
      cond_cases (λ b. b ≡ true) (used x) (good x) (is_zero x) (λ u. passes x u (s.used_good i u))
      (λ u. ap is_zero (s.free_zero i u) ∙ free)

-- none passes where the count is zero
pub none_counted : {A : Type 0} (p : A → Bool) (z : A) → p z ≡ false → (xs : List A) → count p xs ≡ 0 → (i : ℕ) → p (get_or xs i z) ≡ true → ⊥
none_counted p z free xs none i e =
    not_both (any_of p z xs i (used_below p z free xs i e) e) (sym (count_some p xs) ∙ ap (λ (n : ℕ). not (eqb n 0)) none)

-- free slots, as many as there are
pub free_at : {A : Type 0} (z : A) (n i : ℕ) → get_or (replicate n z) i z ≡ z
free_at z zero i = refl
free_at z (suc n) zero = refl
free_at z (suc n) (suc i) = free_at z n i

module _ {A : Type 0} (used : A → Bool) (z : A) (free : used z ≡ false) (n : ℕ) where
  pub none_used : (i : ℕ) → used (get_or (replicate n z) i z) ≡ true → ⊥
  none_used i u = not_both u (ap used (free_at z n i) ∙ free)

  pub free_slots : {Good : A → Type 0} → Slots used z Good n (replicate n z)
  free_slots =
      record { size = length-replicate n z; free_zero = λ i u. free_at z n i; used_good = λ i u. absurd (none_used i u) }
