-- Laws of `split` and `components`: the first part, what follows it, and where a path may be cut.
use Rattle.base.{specs.Base.{ℕ, zero, suc, ◌≤◌, ◌<◌, ◌≡◌, Bool, true, false, not, cond, List, [], ◌∷◌, ◌++◌, eqb, length, take, drop, replicate, keep, is_empty}, proofs.Laws.{refl, sym, ap, ◌∙◌, arith, length-take, eq-eqb, keep_append}}
use lib.{ListN.take-append-drop, Seq.{take-length, drop-length, drop-cons}}
use mathlib.Core.List.{append-nil, append_assoc}
use Rattle.units.specs.Units.{backslash}
use Rattle.components.proofs.Leading.{leading_le, leading_rest, leading-take, leading_signs}
use Rattle.components.specs.{Components.{split, start_part, components}, Positions.{leading, is_sign, no_sign}}

-- the parts after the first separator, which the list starts with
abbrev pub split_rest : ℕ → List ℕ → List (List ℕ)
split_rest sign [] = []
split_rest sign (u ∷ us) = split sign us

-- the first part goes up to the first separator
pub split_first : (sign : ℕ) (us : List ℕ) → split sign us ≡ take (leading (no_sign sign) us) us ∷ split_rest sign (drop (leading (no_sign sign) us) us)
unfolding split leading start_part
split_first sign [] = refl
split_first sign (u ∷ us) = go (eqb u sign) (split_first sign us)
  where
    m : ℕ
    m = leading (no_sign sign) us

    go : (b : Bool) → split sign us ≡ take m us ∷ split_rest sign (drop m us) → cond b ([] ∷ split sign us) (start_part u (split sign us)) ≡ take (cond (not b) (suc m) 0) (u ∷ us) ∷ split_rest sign (drop (cond (not b) (suc m) 0) (u ∷ us))
    go true h = refl
    go false h = rw h

-- without a separator there is one part
pub split_one : (sign : ℕ) (us : List ℕ) → length us ≤ leading (no_sign sign) us → split sign us ≡ us ∷ []
split_one sign us h =
    let e : leading (no_sign sign) us ≡ length us = omega (arith, leading_le (no_sign sign) us) in
    split_first sign us ∙ rw (e, take-length us, drop-length us)

-- with one, the other parts are those after it
pub split_more : (sign : ℕ) (us : List ℕ) → leading (no_sign sign) us < length us → split sign us ≡ take (leading (no_sign sign) us) us ∷ split sign (drop (suc (leading (no_sign sign) us)) us)
split_more sign us h =
    let m = leading (no_sign sign) us in
    split_first sign us ∙ ap (λ (l : List ℕ). take m us ∷ split_rest sign l) (drop-cons us m 0 h)

-- a separator splits a list in two
pub split-append : (sign : ℕ) (a b : List ℕ) → split sign (a ++ sign ∷ b) ≡ split sign a ++ split sign b
unfolding split start_part
split-append sign [] b = rw (eq-eqb sign sign refl)
split-append sign (u ∷ a) b = go (eqb u sign) (split-append sign a b)
  where
    go : (t : Bool) → split sign (a ++ sign ∷ b) ≡ split sign a ++ split sign b → cond t ([] ∷ split sign (a ++ sign ∷ b)) (start_part u (split sign (a ++ sign ∷ b))) ≡ cond t ([] ∷ split sign a) (start_part u (split sign a)) ++ split sign b
    go true h = rw h
    go false h = rw (h, split_first sign a)

-- components

pub components-append : (a b : List ℕ) → components (a ++ backslash ∷ b) ≡ components a ++ components b
unfolding components
components-append a b =
    ap (keep (λ c. not (is_empty c))) (split-append backslash a b)
    ∙ keep_append (λ c. not (is_empty c)) (split backslash a) (split backslash b)

-- separators in front vanish
pub components_signs : (n : ℕ) (t : List ℕ) → components (replicate n backslash ++ t) ≡ components t
unfolding components split keep is_empty
components_signs zero t = refl
components_signs (suc n) t = components-append [] (replicate n backslash ++ t) ∙ components_signs n t

pub components_skip : (us : List ℕ) → components us ≡ components (drop (leading (is_sign backslash) us) us)
components_skip us =
    let n = leading (is_sign backslash) us in
    ap components (sym (take-append-drop n us) ∙ ap (λ (l : List ℕ). l ++ drop n us) (leading_signs backslash us))
    ∙ components_signs n (drop n us)

components_rest : (us : List ℕ) → leading (no_sign backslash) us ≡ 0 → keep (λ c. not (is_empty c)) (split_rest backslash us) ≡ components us
unfolding components split keep is_empty leading
components_rest [] h = refl
components_rest (u ∷ us) h = go (eqb u backslash) h
  where
    go : (b : Bool) → cond (not b) (suc (leading (no_sign backslash) us)) 0 ≡ 0 → keep (λ c. not (is_empty c)) (split backslash us) ≡ keep (λ c. not (is_empty c)) (cond b ([] ∷ split backslash us) (start_part u (split backslash us)))
    go true h = refl
    go false h = absurd (omega arith)

pub not_empty : (p : ℕ → Bool) (us : List ℕ) → (leading p us ≡ 0 → ⊥) → is_empty (take (leading p us) us) ≡ false
unfolding leading is_empty
not_empty p [] ne = absurd (ne refl)
not_empty p (u ∷ us) ne = go (p u) ne
  where
    go : (b : Bool) → (cond b (suc (leading p us)) 0 ≡ 0 → ⊥) → is_empty (take (cond b (suc (leading p us)) 0) (u ∷ us)) ≡ false
    go true ne = refl
    go false ne = absurd (ne refl)

-- units before a separator are the first component
pub components_first : (us : List ℕ) → (leading (no_sign backslash) us ≡ 0 → ⊥) → components us ≡ take (leading (no_sign backslash) us) us ∷ components (drop (leading (no_sign backslash) us) us)
unfolding components keep
components_first us ne =
    let m = leading (no_sign backslash) us in
    ap (keep (λ c. not (is_empty c))) (split_first backslash us)
    ∙ rw (not_empty (no_sign backslash) us ne) (ap (λ (l : List (List ℕ)). take m us ∷ l) (components_rest (drop m us) (leading_rest (no_sign backslash) us)))

pub components_none : (us : List ℕ) → leading (is_sign backslash) us ≡ 0 → leading (no_sign backslash) us ≡ 0 → components us ≡ []
unfolding components split keep is_empty leading
components_none [] p q = refl
components_none (u ∷ us) p q = absurd (go (eqb u backslash) p q)
  where
    go : (b : Bool) → cond b (suc (leading (is_sign backslash) us)) 0 ≡ 0 → cond (not b) (suc (leading (no_sign backslash) us)) 0 ≡ 0 → ⊥
    go true p q = omega arith
    go false p q = omega arith

pub components_single : (us : List ℕ) → (leading (no_sign backslash) us ≡ 0 → ⊥) → components (take (leading (no_sign backslash) us) us) ≡ take (leading (no_sign backslash) us) us ∷ []
unfolding components keep
components_single us ne =
    let m = leading (no_sign backslash) us in
    let short : length (take m us) ≤ leading (no_sign backslash) (take m us) = omega (arith, length-take m us, leading-take (no_sign backslash) us) in
    ap (keep (λ c. not (is_empty c))) (split_one backslash (take m us) short)
    ∙ rw (not_empty (no_sign backslash) us ne)

-- a path may be cut after units that are open: what follows starts a component of its own

abbrev pub Open : List ℕ → Type 0
Open us = (t : List ℕ) → components (us ++ t) ≡ components us ++ components t

pub signs_alone : (n : ℕ) → components (replicate n backslash) ≡ []
unfolding components split keep is_empty
signs_alone n = ap components (sym (append-nil (replicate n backslash))) ∙ components_signs n []

pub open_signs : (n : ℕ) → Open (replicate n backslash)
open_signs n t = components_signs n t ∙ ap (λ (l : List (List ℕ)). l ++ components t) (sym (signs_alone n))

pub components_trail : (us : List ℕ) (n : ℕ) → components (us ++ replicate (suc n) backslash) ≡ components us
components_trail us n =
    components-append us (replicate n backslash)
    ∙ ap (λ (l : List (List ℕ)). components us ++ l) (signs_alone n)
    ∙ append-nil (components us)

pub open_trail : (us : List ℕ) (n : ℕ) → Open (us ++ replicate (suc n) backslash)
open_trail us n t =
    ap components (append_assoc us (replicate (suc n) backslash) t)
    ∙ components-append us (replicate n backslash ++ t)
    ∙ ap (λ (l : List (List ℕ)). components us ++ l) (components_signs n t)
    ∙ ap (λ (l : List (List ℕ)). l ++ components t) (sym (components_trail us n))
