-- Laws of step 4: a component by its colons, and the end of a path.
use Rattle.base.{specs.Base.{ℕ, suc, ◌-◌, ◌≤◌, ◌<◌, ◌≡◌, Bool, true, false, not, cond, List, [], ◌∷◌, map, Option, none, some, eqb, ltb, length, get_or, drop, all, is_empty}, proofs.Laws.{refl, false≢true, arith, eqb-true, ltb-true, ltb-false, and_left, and_right, same_is}}
use lib.Seq.{slice_empty}
use Rattle.components.{specs.{Components.split, Positions.{leading, no_sign, part_of, parents_of, Within}, declared.Part.Part}, proofs.{Splitting.{split_first, split_one, split_more}, Places.{Searched, up_to, past, split_last, split_found, part_some, first_within}}}
use Rattle.units.specs.Units.{colon, data_type, upper, folded, equal_units}
use Rattle.paths.specs.{Paths.{Leaf, leaf_of, ends_in}, Positions.{as_leaf, as_path, LeafWithin, ParsedParts, named}, declared.{LeafParts.LeafParts, ParsedPath.{ParsedPath, TheVariants.{Invalid, Named}}}}

-- the last unit

pub ends_empty : (sign : ℕ) (us : List ℕ) → length us ≡ 0 → ends_in sign us ≡ false
unfolding ends_in
ends_empty sign [] e = refl
ends_empty sign (u ∷ us) e = absurd (omega arith)

pub ends_last : (sign : ℕ) (us : List ℕ) → (length us ≡ 0 → ⊥) → eqb (get_or us (length us - 1) 0) sign ≡ ends_in sign us
unfolding ends_in is_empty
ends_last sign [] ne = absurd (ne refl)
ends_last sign (u ∷ []) ne = refl
ends_last sign (u ∷ v ∷ us) ne =
    let e : suc (suc (length us)) - 1 ≡ suc (suc (length us) - 1) = omega arith in
    rw e (ends_last sign (v ∷ us) (λ z. omega arith))

-- a type: `$DATA` has no colon, so more colons are none

no_colon_lem : (t : List ℕ) → all (no_sign colon) (map (folded true) t) ≡ true → length t ≤ leading (no_sign colon) t
unfolding all leading folded upper
no_colon_lem [] h = omega arith
no_colon_lem (u ∷ us) h = go (eqb u colon) refl (no_colon_lem us)
  where
    rest : all (no_sign colon) (map (folded true) us) ≡ true
    rest = and_right (no_sign colon (folded true u)) (all (no_sign colon) (map (folded true) us)) h

    go : (b : Bool) → eqb u colon ≡ b → (all (no_sign colon) (map (folded true) us) ≡ true → length us ≤ leading (no_sign colon) us) → suc (length us) ≤ cond (not b) (suc (leading (no_sign colon) us)) 0
    go true e tail =
        let never : false ≡ true = rw (eqb-true u colon e) at (and_left (no_sign colon (folded true u)) (all (no_sign colon) (map (folded true) us)) h) in
        absurd (false≢true never)
    go false e tail = omega (arith, tail rest)

data_type_lem : (t : List ℕ) → equal_units true t data_type ≡ true → length t ≤ leading (no_sign colon) t
unfolding equal_units all folded upper
data_type_lem t e = no_colon_lem t (rw (same_is (map (folded true) t) (map (folded true) data_type) e))

pub leaf_type : (f s t : List ℕ) → leaf_of (f ∷ s ∷ split colon t) ≡ cond (equal_units true t data_type) (some (record { file = f; stream = s; colon = true })) none
unfolding leaf_of
leaf_type f s t = go (ltb (leading (no_sign colon) t) (length t)) refl
  where
    m : ℕ
    m = leading (no_sign colon) t

    longer : (b : Bool) → equal_units true t data_type ≡ b → m < length t → ◌≡◌ {A = Option Leaf} none (cond b (some (record { file = f; stream = s; colon = true })) none)
    longer true e h = absurd (omega (arith, data_type_lem t e))
    longer false e h = refl

    go : (b : Bool) → ltb m (length t) ≡ b → leaf_of (f ∷ s ∷ split colon t) ≡ cond (equal_units true t data_type) (some (record { file = f; stream = s; colon = true })) none
    go true e = rw (split_more colon t (ltb-true m (length t) e), split_first colon (drop (suc m) t)) (longer (equal_units true t data_type) refl (ltb-true m (length t) e))
    go false e = rw (split_one colon t (ltb-false m (length t) e))

-- the last component by the colons found; what holds of its places may ask for more

refused : (inside : Type 0) (path : List ℕ) (parents : List (List ℕ)) {l : Option Leaf} → l ≡ none → ParsedParts inside path Invalid (named parents l)
unfolding as_path named
refused inside path parents e = record { is = rw e; places = λ h. tt }

found : (inside : Type 0) (path : List ℕ) (parts : LeafParts) {l : Option Leaf} → l ≡ some (as_leaf path parts) → (inside → LeafWithin path parts) → ParsedParts inside path (Named parts) (named (parents_of path parts.file) l)
unfolding as_path named
found inside path parts e within = record { is = rw e; places = within }

module _ {path : List ℕ} {part : Part} {units : List ℕ} {k : ℕ} (searched : Searched colon path part units k) where
  -- without a colon
  pub leaf_file : length units ≤ k → ParsedParts (Within path part) path (Named (record { file = up_to part k; stream = record { start = k; end = k }; colon = false })) (named (parents_of path part) (leaf_of (split colon (part_of path part))))
  unfolding leaf_of as_leaf part_of
  leaf_file h =
      found (Within path part) path _ (rw (split_last searched h, slice_empty k path))
      (λ within.
      let file = first_within searched within in
      record { file = file; stream = record { ordered = omega arith; inside = file.inside } })

  -- after the file's name
  module _ (file : Part) where
    abbrev stream_of : LeafParts
    stream_of = record { file = file; stream = up_to part k; colon = true }

    abbrev Inside : Type 0
    Inside = Within path file × Within path part

    abbrev Stream : ParsedPath → Type 0
    Stream r = ParsedParts Inside path r (named (parents_of path file) (leaf_of (part_of path file ∷ split colon (part_of path part))))

    within : Inside → LeafWithin path stream_of
    within h = record { file = h.0; stream = first_within searched h.1 }

    pub stream_typed : k < length units → equal_units true (part_of path (past part k)) data_type ≡ true → Stream (Named stream_of)
    unfolding as_leaf
    stream_typed h t =
        found Inside path stream_of
        (rw (split_found searched h, leaf_type (part_of path file) (part_of path (up_to part k)) (part_of path (past part k)), t))
        within

    pub stream_untyped : k < length units → equal_units true (part_of path (past part k)) data_type ≡ false → Stream Invalid
    stream_untyped h t =
        refused Inside path (parents_of path file)
        (rw (split_found searched h, leaf_type (part_of path file) (part_of path (up_to part k)) (part_of path (past part k)), t))

    pub stream_empty : length units ≤ k → part.start ≡ k → Stream Invalid
    unfolding leaf_of is_empty part_of
    stream_empty h same =
        refused Inside path (parents_of path file) (rw (split_last searched h, same, slice_empty k path))

    pub stream_only : length units ≤ k → (part.start ≡ k → ⊥) → Stream (Named stream_of)
    unfolding leaf_of as_leaf
    stream_only h ne = found Inside path stream_of (rw (split_last searched h, part_some searched ne)) within
