-- Laws of `leading`, the count of elements before the first that fails a test, and of parts that end there.
use Rattle.base.{specs.Base.{ℕ, zero, suc, ◌+◌, ◌-◌, ◌≤◌, ◌<◌, ◌≡◌, Bool, true, false, cond, List, [], ◌∷◌, eqb, length, take, drop, replicate, slice}, proofs.Laws.{refl, sym, ap, ◌∙◌, arith, length-drop, length-take, eqb-true}}
use lib.Seq.{take-nil, take-take, drop-drop}
use native.Mathlib.Nat.{sub-zero, zero-sub, suc-sub-suc}
use Rattle.std.specs.Prelude.{Option}
use Rattle.std.{specs.{List.{AllWithin, HoldsAt}, Option.{MatchOption, unwrap_or}}, proofs.lemmas.Iterator.{index_from_first}}
use Rattle.components.specs.Positions.{leading, is_sign}

-- what `position` found in the units from a place on: the first that fails, if any
abbrev pub FirstFails : (ℕ → Bool) → List ℕ → Option ℕ → Type 0
FirstFails p us r =
    MatchOption r (AllWithin (λ u. p u ≡ true) us 0 (length us))
    (λ i. (i < length us) × HoldsAt (λ u. p u ≡ false) us i × AllWithin (λ u. p u ≡ true) us 0 i)

pub leading_found : (p : ℕ → Bool) (us : List ℕ) (r : Option ℕ) → FirstFails p us r → unwrap_or r (length us) ≡ leading p us
unfolding leading
leading_found p us r found =
    sym
    (index_from_first (leading p) (λ u. p u ≡ false) (λ u. p u ≡ true) refl (λ u us e. rw e)
    (λ u us e. rw e (let z : suc (leading p us) ≡ leading p us + 1 = omega arith in z)) us r found)

module _ (p : ℕ → Bool) where
  pub leading_le : (us : List ℕ) → leading p us ≤ length us
  unfolding leading
  leading_le [] = omega arith
  leading_le (u ∷ us) = go (p u) (leading_le us)
    where
      go : (b : Bool) → leading p us ≤ length us → cond b (suc (leading p us)) 0 ≤ suc (length us)
      go true h = omega arith
      go false h = omega arith

  -- none passes where they end
  pub leading_rest : (us : List ℕ) → leading p (drop (leading p us) us) ≡ 0
  unfolding leading
  leading_rest [] = refl
  leading_rest (u ∷ us) = go (p u) refl (leading_rest us)
    where
      go : (b : Bool) → p u ≡ b → leading p (drop (leading p us) us) ≡ 0 → leading p (drop (cond b (suc (leading p us)) 0) (u ∷ us)) ≡ 0
      go true e h = h
      go false e h = rw e

  -- those before are counted alike without the rest
  pub leading-take : (us : List ℕ) → leading p (take (leading p us) us) ≡ leading p us
  unfolding leading
  leading-take [] = refl
  leading-take (u ∷ us) = go (p u) refl (leading-take us)
    where
      go : (b : Bool) → p u ≡ b → leading p (take (leading p us) us) ≡ leading p us → leading p (take (cond b (suc (leading p us)) 0) (u ∷ us)) ≡ cond b (suc (leading p us)) 0
      go true e h = rw e (ap suc h)
      go false e h = refl

-- elements that are the sign are as many signs
pub leading_signs : (sign : ℕ) (us : List ℕ) → take (leading (is_sign sign) us) us ≡ replicate (leading (is_sign sign) us) sign
unfolding leading
leading_signs sign [] = refl
leading_signs sign (u ∷ us) = go (eqb u sign) refl (leading_signs sign us)
  where
    n : ℕ
    n = leading (is_sign sign) us

    go : (b : Bool) → eqb u sign ≡ b → take n us ≡ replicate n sign → take (cond b (suc n) 0) (u ∷ us) ≡ replicate (cond b (suc n) 0) sign
    go true e h = cc (eqb-true u sign e, h)
    go false e h = refl

-- parts of a list

module _ {A : Type 0} where
  drop-take : (s e : ℕ) (xs : List A) → slice s e xs ≡ take (e - s) (drop s xs)
  drop-take zero e xs = rw (sub-zero e)
  drop-take (suc s) zero xs = rw (zero-sub (suc s))
  drop-take (suc s) (suc e) [] = sym (take-nil (suc e - suc s))
  drop-take (suc s) (suc e) (x ∷ xs) = rw (suc-sub-suc e s) (drop-take s e xs)

  -- the part of n elements from s on
  pub slice_start : (s n : ℕ) (xs : List A) → slice s (s + n) xs ≡ take n (drop s xs)
  slice_start s n xs =
      let e : s + n - s ≡ n = omega arith in
      drop-take s (s + n) xs ∙ ap (λ (k : ℕ). take k (drop s xs)) e

  -- a part's first n elements
  pub slice_take : (s e n : ℕ) (xs : List A) → n ≤ length (slice s e xs) → take n (slice s e xs) ≡ slice s (s + n) xs
  slice_take s e n xs h =
      let within : n ≤ e - s = omega (arith, length-drop s (take e xs), length-take e xs) in
      ap (take n) (drop-take s e xs) ∙ take-take n (e - s) (drop s xs) within ∙ sym (slice_start s n xs)

  -- a part without its first n elements
  pub slice_drop : (s e n : ℕ) (xs : List A) → drop n (slice s e xs) ≡ slice (s + n) e xs
  slice_drop s e n xs = drop-drop n s (take e xs)
