-- How step 4 ends: it refuses with OBJECT_NAME_INVALID alone, and the last component of a path that passes is as
-- LeafFits says; the root's has no name.
use Rattle.base.{specs.Base.{ℕ, ◌≡◌, Bool, true, false, cond, not, ◌&&◌, List, [], ◌∷◌, Option, none, some, all, is_empty, file_name_limit, stream_name_limit, Refusal, ObjectNameInvalid}, proofs.Laws.{refl, true≢false, not-true, and_left, and_right, Ends, stops, goes, ends_bind, ends_test, ends_cond}}
use Rattle.components.specs.Components.{split, components}
use Rattle.names.specs.Names.{valid_units, valid_file_name, valid_stream_name}
use Rattle.units.specs.Units.{colon, data_type, equal_units}
use Rattle.paths.specs.Paths.{Leaf, no_leaf, leaf_of, valid_leaf, checked_leaf, parse_components, parse_path}

pub record LeafFits (wants_directory : Bool) (l : Leaf) : Type 0 where
  pub file_valid : is_empty l.file ≡ false → valid_file_name file_name_limit l.file ≡ true
  pub stream_valid : valid_stream_name stream_name_limit l.stream ≡ true
  pub no_colon : (wants_directory && l.colon) ≡ false
  pub unnamed : l.colon ≡ false → l.stream ≡ []

-- without a colon there is no stream name
unnamed_of_lem : (parts : List (List ℕ)) (l : Leaf) → leaf_of parts ≡ some l → l.colon ≡ false → l.stream ≡ []
unfolding leaf_of
unnamed_of_lem [] l h c = cc
unnamed_of_lem (f ∷ []) l h c = cc
unnamed_of_lem (f ∷ s ∷ []) l h c = go (is_empty s) h
  where
    go : (b : Bool) → cond b none (some (record { file = f; stream = s; colon = true })) ≡ some l → l.stream ≡ []
    go true k = cc
    go false k = cc
unnamed_of_lem (f ∷ s ∷ t ∷ []) l h c = go (equal_units true t data_type) h
  where
    go : (b : Bool) → cond b (some (record { file = f; stream = s; colon = true })) none ≡ some l → l.stream ≡ []
    go true k = cc
    go false k = cc
unnamed_of_lem (f ∷ s ∷ t ∷ u ∷ us) l h c = cc

-- the root's
no_leaf_lem : (wd : Bool) → LeafFits wd no_leaf
unfolding is_empty valid_stream_name valid_units all
no_leaf_lem wd =
    record { file_valid = λ e. absurd (true≢false e); stream_valid = refl; no_colon = none wd; unnamed = λ e. refl }
  where
    none : (b : Bool) → (b && false) ≡ false
    none true = refl
    none false = refl

-- the chain of its parts
module _ {Q : Refusal → Type 0} (invalid : Q (record { status = ObjectNameInvalid })) (wd : Bool) where
  leaf_ends : (parts : List (List ℕ)) → Ends Q (LeafFits wd) (checked_leaf wd (leaf_of parts))
  unfolding valid_leaf checked_leaf
  leaf_ends parts = go (leaf_of parts) refl
    where
      fits : (l : Leaf) → leaf_of parts ≡ some l → valid_leaf wd l ≡ true → LeafFits wd l
      fits l e v =
          let a = valid_file_name file_name_limit l.file in
          let b = valid_stream_name stream_name_limit l.stream in
          let c = not (wd && l.colon) in
          record {
            file_valid = λ named. and_left a b (and_left (a && b) c v);
            stream_valid = and_right a b (and_left (a && b) c v);
            no_colon = not-true (wd && l.colon) (and_right (a && b) c v);
            unnamed = unnamed_of_lem parts l e;
          }

      go : (o : Option Leaf) → leaf_of parts ≡ o → Ends Q (LeafFits wd) (checked_leaf wd o)
      go none e = stops invalid
      go (some l) e = ends_cond (valid_leaf wd l) (λ v. goes (fits l e v)) (λ v. stops invalid)

  components_ends : (cs : List (List ℕ)) → Ends Q (λ p. LeafFits wd p.leaf) (parse_components wd cs)
  unfolding parse_components
  components_ends [] = goes (no_leaf_lem wd)
  components_ends (c ∷ []) = ends_bind (leaf_ends (split colon c)) (λ l fits. goes fits)
  components_ends (c ∷ d ∷ ds) =
      ends_test _ _ invalid (λ valid. ends_bind (components_ends (d ∷ ds)) (λ p fits. goes fits))

  pub parsed_ends : (wf : Bool) (units : List ℕ) → Ends Q (λ p. LeafFits wd p.leaf) (parse_path wd wf units)
  unfolding parse_path
  parsed_ends wf units =
      ends_test _ _ invalid (λ short. ends_test _ _ invalid (λ last. components_ends (components units)))
