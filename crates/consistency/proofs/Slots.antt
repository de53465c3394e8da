-- The laws of a table's slots: a test decides them; when one is set, and when other things are asked of a used one, they
-- stay as they should be; under a map.
use Rattle.base.{specs.Base.{ℕ, ◌≡◌, Bool, true, false, List, ◌↔◌, get_or, set, keep, pairs, map}, proofs.Laws.{refl, sym, ◌∙◌, length-set, by_cases, cond_true, cond_false, not_both, and_iff, eqb_iff, all_of, all_slots, pairs_keep_at, pairs_keep_of, set-each, set-pairs, get_or_map, length-map, ap, subst}}
use Rattle.lists.proofs.Places.{used_below}
use Rattle.consistency.specs.Slots.{Slots, EveryTwo, slot_test, slots_test}

-- what tests decide of a table's records: that a used one is good, and that a free one is all zero
pub record Decides {A : Type 0} (used good is_zero : A → Bool) (zero : A) (Good : A → Type 0) : Type 0 where
  pub zero_free : used zero ≡ false
  pub decides_good : (x : A) → used x ≡ true → (good x ≡ true) ↔ Good x
  pub decides_zero : (x : A) → used x ≡ false → (is_zero x ≡ true) ↔ (x ≡ zero)

module _ {A : Type 0} {used good is_zero : A → Bool} {zero : A} {Good : A → Type 0} (d : Decides used good is_zero zero Good) where
  -- a slot that passes: a good one, or all zero
  pub slot_good : (x : A) → used x ≡ true → slot_test used good is_zero x ≡ true → Good x
  slot_good x u h = (d.decides_good x u).0 (sym (cond_true (good x) (is_zero x) u) ∙ h)

  slot_zero : (x : A) → used x ≡ false → slot_test used good is_zero x ≡ true → x ≡ zero
  slot_zero x u h = (d.decides_zero x u).0 (sym (cond_false (good x) (is_zero x) u) ∙ h)

  slot_of : (x : A) → (used x ≡ true → Good x) → (used x ≡ false → x ≡ zero) → slot_test used good is_zero x ≡ true
  slot_of x g z =
      by_cases (used x) (λ u. cond_true (good x) (is_zero x) u ∙ (d.decides_good x u).1 (g u))
      (λ u. cond_false (good x) (is_zero x) u ∙ (d.decides_zero x u).1 (z u))

  pub slots_iff : (n : ℕ) (xs : List A) → (slots_test used good is_zero n xs ≡ true) ↔ Slots used zero Good n xs
  unfolding slots_test
  slots_iff n xs = (
    λ h.
        let p = simp (slots_test, and_iff, eqb_iff) at h in
        let at = all_slots (slot_test used good is_zero) zero (slot_of zero (λ u. absurd (not_both u d.zero_free)) (λ u. refl)) xs p.1 in
        record {
          size = p.0;
          free_zero = λ i u. slot_zero (get_or xs i zero) u (at i);
          used_good = λ i u. slot_good (get_or xs i zero) u (at i);
        },
    λ s.
        simp (slots_test, and_iff, eqb_iff)
        (s.size, all_of (slot_test used good is_zero) zero xs (λ i b. slot_of (get_or xs i zero) (s.used_good i) (s.free_zero i))),
  )

module _ {A : Type 0} {used : A → Bool} {zero : A} {Good Good' : A → Type 0} {n : ℕ} {xs : List A} where
  -- used slots are as good by another measure
  pub slots_good : ((x : A) → used x ≡ true → Good x → Good' x) → Slots used zero Good n xs → Slots used zero Good' n xs
  slots_good g s =
      record { size = s.size; free_zero = s.free_zero; used_good = λ i u. g (get_or xs i zero) u (s.used_good i u) }

module _ {A : Type 0} {used : A → Bool} {zero : A} {Good : A → Type 0} {n : ℕ} {xs : List A} (s : Slots used zero Good n xs) where
  -- one slot takes a record that is good, or all zero
  pub slots_set : (i : ℕ) (y : A) → (used y ≡ true → Good y) → (used y ≡ false → y ≡ zero) → Slots used zero Good n (set xs i y)
  slots_set i y g z =
      record {
        size = length-set xs i y ∙ s.size;
        free_zero = set-each zero (λ x. used x ≡ false → x ≡ zero) xs i y z s.free_zero;
        used_good = set-each zero (λ x. used x ≡ true → Good x) xs i y g s.used_good;
      }

-- under a map: slots that are so by what is read of them are so themselves, if one that reads as zero is zero
module _ {A B : Type 0} (f : A → B) {used : B → Bool} (zero : A) {Good : B → Type 0} {n : ℕ} (xs : List A) where
  pub slots_map : ((i : ℕ) → f (get_or xs i zero) ≡ f zero → get_or xs i zero ≡ zero) → Slots used (f zero) Good n (map f xs)
      → Slots (λ x. used (f x)) zero (λ x. Good (f x)) n xs
  slots_map zeros s =
      let at : (i : ℕ) → get_or (map f xs) i (f zero) ≡ f (get_or xs i zero) = λ i. get_or_map f xs i zero in
      record {
        size = sym (length-map xs f) ∙ s.size;
        free_zero = λ i u. zeros i (sym (at i) ∙ s.free_zero i (ap used (at i) ∙ u));
        used_good = λ i u. subst Good (at i) (s.used_good i (ap used (at i) ∙ u));
      }

-- every two used slots, by a test
module _ {A : Type 0} (used : A → Bool) (zero : A) (free : used zero ≡ false) (r : A → A → Bool) (R : A → A → Type 0)
    (decides : (x y : A) → (r x y ≡ true) ↔ R x y) (xs : List A)
  where
    pub two_iff : (pairs r (keep used xs) ≡ true) ↔ EveryTwo used zero R xs
    two_iff = (
      λ h i j b u w.
          (decides (get_or xs i zero) (get_or xs j zero)).0
          (pairs_keep_at used r zero xs h i j b (used_below used zero free xs j w) u w),
      λ t. pairs_keep_of used r zero xs (λ i j b l u w. (decides (get_or xs i zero) (get_or xs j zero)).1 (t i j b u w)),
    )

-- one slot takes a record that stands so to every used one
module _ {A : Type 0} (used : A → Bool) (zero : A) (R : A → A → Type 0) (turn : (x y : A) → R x y → R y x) (xs : List A) where
  pub two_set : EveryTwo used zero R xs → (i : ℕ) (y : A)
      → ((j : ℕ) → used y ≡ true → used (get_or xs j zero) ≡ true → R y (get_or xs j zero)) → EveryTwo used zero R (set xs i y)
  two_set t i y new =
      set-pairs zero (λ a b. used a ≡ true → used b ≡ true → R a b) (λ a b h u w. turn a b (h w u)) xs i y new t
