-- Laws of the places that the code finds in a path: the next component, the components before it, and the first sign in a
-- part.
use Rattle.base.{specs.Base.{ℕ, zero, suc, ◌+◌, ◌-◌, ◌≤◌, ◌<◌, ◌≡◌, false, List, [], ◌∷◌, ◌++◌, length, take, drop, replicate, slice, is_empty}, proofs.Laws.{refl, sym, ap, ◌∙◌, arith, length-drop, take_all}}
use lib.Seq.{drop-drop, take-add, take-take, length-take-le}
use native.Mathlib.Nat.{zero-add, add-zero}
use Rattle.units.specs.Units.{backslash}
use Rattle.components.proofs.{Leading.{leading_le, leading_rest, leading_signs, slice_start, slice_take, slice_drop}, Splitting.{split_one, split_more, not_empty, components_skip, components_first, components_none, components_single, components_trail, signs_alone, Open, open_signs, open_trail}}
use Rattle.components.specs.{Components.{split, components}, Positions.{leading, is_sign, no_sign, place_of, place_after, part_of, Within, next_component}, declared.Part.Part}

-- a part that stands in the units before a place
pub part_before : (path : List ℕ) (end : ℕ) (p : Part) → p.end ≤ end → part_of (take end path) p ≡ part_of path p
unfolding part_of
part_before path end p h = ap (drop p.start) (take-take p.end end path h)

-- from a place of the units up to the next sign
pub place-within : (sign : ℕ) (us : List ℕ) (at : ℕ) → at ≤ length us → Within us (record { start = at; end = place_of sign us at })
unfolding place_of
place-within sign us at h =
    record {
      ordered = omega arith;
      inside = omega (arith, leading_le (no_sign sign) (drop at us), length-drop at us);
    }

module _ (path : List ℕ) (at : ℕ) where
  abbrev pub next_start : ℕ
  next_start = (next_component path at).start

  abbrev pub next_end : ℕ
  next_end = (next_component path at).end

  pub next_order : (at ≤ next_start) × (next_start ≤ next_end)
  unfolding next_component place_of place_after
  next_order = (omega arith, omega arith)

  pub next_within : (next_start ≡ next_end → ⊥) → next_end ≤ length path
  unfolding next_component place_of place_after
  next_within ne =
      let s = at + leading (is_sign backslash) (drop at path) in
      omega (arith, leading_le (no_sign backslash) (drop s path), length-drop s path)

  pub next_part : (next_start ≡ next_end → ⊥) → Within path (next_component path at)
  next_part ne = record { ordered = next_order.1; inside = next_within ne }

  skipped : components (drop at path) ≡ components (drop next_start path)
  unfolding next_component place_after
  skipped =
      let n = leading (is_sign backslash) (drop at path) in
      components_skip (drop at path) ∙ ap components (drop-drop n at path)

  pub next_found : (next_start ≡ next_end → ⊥) → components (drop at path) ≡ part_of path (next_component path at) ∷ components (drop next_end path)
  unfolding next_component place_of place_after part_of
  next_found ne =
      let s = at + leading (is_sign backslash) (drop at path) in
      let m = leading (no_sign backslash) (drop s path) in
      skipped
      ∙ components_first (drop s path) (λ e. ne (omega arith))
      ∙ cc (slice_start s m path, drop-drop m s path)

  pub next_none : next_start ≡ next_end → components (drop at path) ≡ []
  unfolding next_component place_of place_after
  next_none e =
      let n = leading (is_sign backslash) (drop at path) in
      let s = at + n in
      skipped
      ∙ components_none (drop s path) (rw (drop-drop n at path) at (leading_rest (is_sign backslash) (drop at path))) (omega arith)

-- the components before a place that is cut open

pub first_open : (path : List ℕ) → Open (take (next_start path 0) path)
unfolding next_component place_after
first_open path = rw (zero-add (leading (is_sign backslash) path), leading_signs backslash path) (open_signs (leading (is_sign backslash) path))

pub first_parents : (path : List ℕ) → components (take (next_start path 0) path) ≡ []
unfolding next_component place_after
first_parents path = rw (zero-add (leading (is_sign backslash) path), leading_signs backslash path) (signs_alone (leading (is_sign backslash) path))

-- a component from s to e, with another after it: the path may be cut before the second, and the first is the last there

module _ (path : List ℕ) (s e : ℕ) (ends : e ≡ place_of backslash path s) where
  closed : leading (no_sign backslash) (drop e path) ≡ 0
  unfolding place_of
  closed =
      let m = leading (no_sign backslash) (drop s path) in
      rw (ends, ← drop-drop m s path) (leading_rest (no_sign backslash) (drop s path))

  -- at least one separator stands after the first
  gap : (next_start path e ≡ next_end path e → ⊥) → (k : ℕ) × (leading (is_sign backslash) (drop e path) ≡ suc k)
  unfolding next_component place_of place_after
  gap more = go (leading (is_sign backslash) (drop e path)) refl
    where
      go : (n : ℕ) → leading (is_sign backslash) (drop e path) ≡ n → (k : ℕ) × (leading (is_sign backslash) (drop e path) ≡ suc k)
      go zero g = absurd (more (rw (g, add-zero e, closed) (sym (add-zero e))))
      go (suc k) g = (k, g)

  cut : take (next_start path e) path ≡ take e path ++ replicate (leading (is_sign backslash) (drop e path)) backslash
  unfolding next_component place_after
  cut =
      let n = leading (is_sign backslash) (drop e path) in
      take-add e n path ∙ ap (λ (l : List ℕ). take e path ++ l) (leading_signs backslash (drop e path))

  pub next_open : (next_start path e ≡ next_end path e → ⊥) → Open (take (next_start path e) path)
  next_open more = let g = gap more in rw (cut, g.1) (open_trail (take e path) g.0)

  last_added : (s ≡ e → ⊥) → Open (take s path) → components (take e path) ≡ components (take s path) ++ (slice s e path ∷ [])
  unfolding place_of
  last_added some opened =
      let m = leading (no_sign backslash) (drop s path) in
      let part : slice s e path ≡ take m (drop s path) = ap (λ (k : ℕ). slice s k path) ends ∙ slice_start s m path in
      ap (λ (k : ℕ). components (take k path)) ends
      ∙ ap components (take-add s m path)
      ∙ opened (take m (drop s path))
      ∙ ap (λ (l : List (List ℕ)). components (take s path) ++ l) (components_single (drop s path) (λ z. some (omega arith)))
      ∙ ap (λ (l : List ℕ). components (take s path) ++ (l ∷ [])) (sym part)

  pub next_parents : (next_start path e ≡ next_end path e → ⊥) → (s ≡ e → ⊥) → Open (take s path) → components (take (next_start path e) path) ≡ components (take s path) ++ (slice s e path ∷ [])
  next_parents more some opened =
      let g = gap more in
      rw (cut, g.1) (components_trail (take e path) g.0) ∙ last_added some opened

-- a part of a path that was searched for a sign: the units before its end, and the place found in them, or their end

pub record Searched (sign : ℕ) (path : List ℕ) (part : Part) (units : List ℕ) (k : ℕ) : Type 0 where
  pub before : units ≡ take part.end path
  pub found : k ≡ place_of sign units part.start

-- the part up to the place, and the part after it
abbrev pub up_to : Part → ℕ → Part
up_to part k = record { start = part.start; end = k }

abbrev pub past : Part → ℕ → Part
past part k = record { start = k + 1; end = part.end }

module _ {sign : ℕ} {path : List ℕ} {part : Part} {units : List ℕ} {k : ℕ} (searched : Searched sign path part units k) where
  count : ℕ
  count = leading (no_sign sign) (part_of path part)

  place : k ≡ part.start + count
  unfolding count place_of part_of
  place = searched.found ∙ ap (λ (l : List ℕ). part.start + leading (no_sign sign) (drop part.start l)) searched.before

  size : length (part_of path part) ≡ length units - part.start
  unfolding part_of
  size = length-drop part.start (take part.end path) ∙ ap (λ (l : List ℕ). length l - part.start) (sym searched.before)

  first_part : take count (part_of path part) ≡ part_of path (up_to part k)
  unfolding count part_of
  first_part =
      slice_take part.start part.end count path (leading_le (no_sign sign) (part_of path part))
      ∙ ap (λ (n : ℕ). slice part.start n path) (sym place)

  pub split_last : length units ≤ k → split sign (part_of path part) ≡ part_of path (up_to part k) ∷ []
  unfolding count
  split_last h =
      let whole : length (part_of path part) ≤ count = omega (arith, place, size) in
      split_one sign (part_of path part) whole
      ∙ ap (λ (l : List ℕ). l ∷ []) (sym (take_all count (part_of path part) whole) ∙ first_part)

  pub split_found : k < length units → split sign (part_of path part) ≡ part_of path (up_to part k) ∷ split sign (part_of path (past part k))
  unfolding count part_of
  split_found h =
      let rest : part.start + suc count ≡ k + 1 = omega (arith, place) in
      split_more sign (part_of path part) (omega (arith, place, size))
      ∙ ap (λ (l : List ℕ). l ∷ split sign (drop (suc count) (part_of path part))) first_part
      ∙ ap (λ (l : List ℕ). part_of path (up_to part k) ∷ split sign l) (slice_drop part.start part.end (suc count) path ∙ ap (λ (n : ℕ). slice n part.end path) rest)

  pub part_some : (part.start ≡ k → ⊥) → is_empty (part_of path (up_to part k)) ≡ false
  unfolding count
  part_some ne = rw (← first_part) (not_empty (no_sign sign) (part_of path part) (λ z. ne (omega (arith, place))))

  -- both are parts of the path where the whole is
  module _ (within : Within path part) where
    sized : length units ≡ part.end
    sized = ap length searched.before ∙ length-take-le part.end path within.inside

    pub first_within : Within path (up_to part k)
    first_within =
        let up = place-within sign units part.start (omega (arith, sized)) in
        record { ordered = omega (arith, searched.found); inside = omega (arith, sized, searched.found) }

    pub rest_within : k < length units → Within path (past part k)
    rest_within h = record { ordered = omega (arith, sized); inside = within.inside }
