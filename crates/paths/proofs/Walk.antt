-- A walk through a path's components: what holds at one of them, from the first to the last.
use Rattle.base.{specs.Base.{ℕ, ◌≡◌, Bool, true, false, List, [], ◌∷◌, take, drop, file_name_limit, passed, refuse, ◌>>=◌, ObjectNameInvalid}, proofs.Laws.{refl, sym, ap, ◌∙◌}}
use Rattle.components.{specs.{Components.{split, components}, Positions.{place_of, part_of, Within, next_component}, declared.Part.Part}, proofs.{Splitting.Open, Places.{next_part, next_found, next_none, first_open, first_parents, next_open, next_parents}}}
use Rattle.names.specs.Names.{valid_file_name}
use Rattle.units.specs.Units.{backslash, colon}
use Rattle.paths.proofs.Judging.{prefixed, prefixed_nil, prefixed_twice, prefixed_last, parse_more, parse_bad}
use Rattle.paths.specs.{Paths.{no_leaf, leaf_of, parse_components}, Positions.checked}

-- at a component: it is not empty, it is a part of the path, it ends where the next separator stands, the path may be cut before it, and the
-- answer is that for it and what follows, after the components before it
pub record At (wants_directory : Bool) (path : List ℕ) (part : Part) : Type 0 where
  pub some : part.start ≡ part.end → ⊥
  pub within : Within path part
  pub ends : part.end ≡ place_of backslash path part.start
  pub opened : Open (take part.start path)
  pub left : parse_components wants_directory (components path) ≡ prefixed (components (take part.start path)) (parse_components wants_directory (part_of path part ∷ components (drop part.end path)))

ends_next : (path : List ℕ) (at : ℕ) → (next_component path at).end ≡ place_of backslash path (next_component path at).start
unfolding next_component
ends_next path at = refl

module _ (wants_directory : Bool) (path : List ℕ) where
  -- the first

  pub first_none : (next_component path 0).start ≡ (next_component path 0).end → passed (record { parents = []; leaf = no_leaf }) ≡ parse_components wants_directory (components path)
  unfolding parse_components
  first_none e = rw (next_none path 0 e)

  pub at_first : ((next_component path 0).start ≡ (next_component path 0).end → ⊥) → At wants_directory path (next_component path 0)
  at_first ne =
      let q = next_component path 0 in
      let rest = parse_components wants_directory (part_of path q ∷ components (drop q.end path)) in
      record {
        some = ne;
        within = next_part path 0 ne;
        ends = ends_next path 0;
        opened = first_open path;
        left =
            ap (parse_components wants_directory) (next_found path 0 ne)
            ∙ sym (prefixed_nil rest)
            ∙ ap (λ (ps : List (List ℕ)). prefixed ps rest) (sym (first_parents path));
      }

  -- from one to the next, and at the last

  module _ (part : Part) (at : At wants_directory path part) where
    pub at_next : ((next_component path part.end).start ≡ (next_component path part.end).end → ⊥) → valid_file_name file_name_limit (part_of path part) ≡ true → At wants_directory path (next_component path part.end)
    unfolding part_of
    at_next ne valid =
        let q = next_component path part.end in
        let before = components (take part.start path) in
        let here = part_of path part in
        let after = components (drop q.end path) in
        let rest = parse_components wants_directory (part_of path q ∷ after) in
        record {
          some = ne;
          within = next_part path part.end ne;
          ends = ends_next path part.end;
          opened = next_open path part.start part.end at.ends ne;
          left =
              at.left
              ∙ ap (λ (l : List (List ℕ)). prefixed before (parse_components wants_directory (here ∷ l))) (next_found path part.end ne)
              ∙ ap (prefixed before) (parse_more wants_directory here (part_of path q) after valid)
              ∙ prefixed_twice before (here ∷ []) rest
              ∙ ap (λ (ps : List (List ℕ)). prefixed ps rest) (sym (next_parents path part.start part.end at.ends ne at.some at.opened));
        }

    pub at_bad : ((next_component path part.end).start ≡ (next_component path part.end).end → ⊥) → valid_file_name file_name_limit (part_of path part) ≡ false → refuse ObjectNameInvalid ≡ parse_components wants_directory (components path)
    unfolding ◌>>=◌
    at_bad ne bad =
        let q = next_component path part.end in
        let before = components (take part.start path) in
        let here = part_of path part in
        sym
        (at.left
        ∙ ap (λ (l : List (List ℕ)). prefixed before (parse_components wants_directory (here ∷ l))) (next_found path part.end ne)
        ∙ ap (prefixed before) (parse_bad wants_directory here (part_of path q) (components (drop q.end path)) bad))

    pub at_last : (next_component path part.end).start ≡ (next_component path part.end).end → checked wants_directory (components (take part.start path)) (leaf_of (split colon (part_of path part))) ≡ parse_components wants_directory (components path)
    at_last e =
        let before = components (take part.start path) in
        let here = part_of path part in
        sym
        (at.left
        ∙ ap (λ (l : List (List ℕ)). prefixed before (parse_components wants_directory (here ∷ l))) (next_none path part.end e)
        ∙ prefixed_last wants_directory before here)
