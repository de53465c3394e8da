-- Laws of equal_units, for code that compares unit by unit.
use Rattle.base.{specs.Base.{ℕ, ◌≡◌, Bool, true, false, ◌&&◌, List, [], ◌∷◌, eqb, map, length, same}, proofs.Laws.{refl, sym, ap, ◌∙◌, arith, length-map, same_self, same_tail, same_differs, same-lengths}}
use Rattle.std.specs.List.{list_all, zip}
use Rattle.units.specs.Units.{folded, equal_units}

module _ (fold : Bool) where
  pub equal_tail : (x y : ℕ) (a b : List ℕ) → folded fold x ≡ folded fold y → equal_units fold (x ∷ a) (y ∷ b) ≡ equal_units fold a b
  unfolding equal_units
  equal_tail x y a b e = same_tail (folded fold x) (folded fold y) (map (folded fold) a) (map (folded fold) b) e

  pub equal_differs : (x y : ℕ) (a b : List ℕ) → (folded fold x ≡ folded fold y → ⊥) → equal_units fold (x ∷ a) (y ∷ b) ≡ false
  unfolding equal_units
  equal_differs x y a b ne = same_differs (folded fold x) (folded fold y) (map (folded fold) a) (map (folded fold) b) ne

  pub equal-lengths : (a b : List ℕ) → (length a ≡ length b → ⊥) → equal_units fold a b ≡ false
  unfolding equal_units
  equal-lengths a b ne =
      same-lengths (map (folded fold) a) (map (folded fold) b)
      (rw (length-map a (folded fold), length-map b (folded fold)) ne)

  -- two units are equal as they are compared
  abbrev pub equal_pair : ℕ × ℕ → Bool
  equal_pair p = eqb (folded fold p.0) (folded fold p.1)

  -- rows of one length, pair by pair
  pub equal_zip : (a b : List ℕ) → length a ≡ length b → list_all equal_pair (zip a b) ≡ equal_units fold a b
  unfolding equal_units same
  equal_zip [] [] h = refl
  equal_zip [] (y ∷ b) h = absurd (omega arith)
  equal_zip (x ∷ a) [] h = absurd (omega arith)
  equal_zip (x ∷ a) (y ∷ b) h = ap (λ (t : Bool). equal_pair (x, y) && t) (equal_zip a b (omega arith))

-- equal names match
pub equal_matches : (fold : Bool) (a b : List ℕ) → a ≡ b → equal_units fold a b ≡ true
unfolding equal_units
equal_matches fold a b e = ap (equal_units fold a) (sym e) ∙ same_self (map (folded fold) a)
