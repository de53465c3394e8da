-- A stored name's units: they are a part of it, there are none exactly where the first place is zero, and the places after
-- them are zero exactly where the name is well stored.
use Rattle.base.{specs.Base.{ℕ, zero, suc, ◌-◌, ◌≤◌, ◌≡◌, Bool, ◌&&◌, List, [], ◌∷◌, ◌++◌, eqb, length, get_or, drop, replicate, all, same, is_empty, padded}, proofs.Laws.{refl, sym, ap, ◌∙◌, arith, same-append}}
use lib.ListN.{length-append}
use Rattle.stored_names.proofs.NameUnits.{units_end, units_none}
use Rattle.stored_names.specs.StoredNames.{units, well_stored}

-- a name is its units and what follows them
units_prefix : (n : List ℕ) → units n ++ drop (length (units n)) n ≡ n
unfolding units
units_prefix [] = refl
units_prefix (zero ∷ us) = refl
units_prefix (suc u ∷ us) = ap (λ (l : List ℕ). suc u ∷ l) (units_prefix us)

module _ (n : List ℕ) where
  pub units_fit : length (units n) ≤ length n
  units_fit = omega (arith, length-append (units n) (drop (length (units n)) n), ap length (units_prefix n))

-- the empty name
pub units_empty : (n : List ℕ) → is_empty (units n) ≡ eqb (get_or n 0 0) 0
units_empty n = units_none n 0

abbrev pub is_zero : ℕ → Bool
is_zero u = eqb u 0

pub zeros : (xs : List ℕ) → same xs (replicate (length xs) 0) ≡ all is_zero xs
unfolding same all
zeros [] = refl
zeros (x ∷ xs) = ap (λ (b : Bool). eqb x 0 && b) (zeros xs)

-- a name is well stored when its places after its units are zero
pub well_stored_lem : (n : List ℕ) → well_stored (length n) n ≡ all is_zero (drop (length (units n)) n)
unfolding well_stored padded
well_stored_lem n =
    let u = units n in
    let t = drop (length u) n in
    let split : u ++ t ≡ n = units_prefix n in
    let rest : length n - length u ≡ length t = omega (arith, length-append u t, ap length split) in
    ap (λ (l : List ℕ). same l (u ++ replicate (length n - length u) 0)) (sym split)
    ∙ ap (λ (k : ℕ). same (u ++ t) (u ++ replicate k 0)) rest
    ∙ same-append u t (replicate (length t) 0)
    ∙ zeros t

-- a name is all zero exactly where it is empty and well stored
pub zeros_stored : (limit : ℕ) (n : List ℕ) → get_or n 0 0 ≡ 0 → well_stored limit n ≡ same n (replicate limit 0)
unfolding well_stored padded
zeros_stored limit n e = rw (well_stored, units_end n 0 e, padded) (ap (λ (k : ℕ). same n (replicate k 0)) (let z : limit - 0 ≡ limit = omega arith in z))
