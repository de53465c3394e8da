-- Laws of step 4 on the values found: the last component judged, the components in order, the path whole.
use Rattle.base.{specs.Base.{ℕ, ◌≤◌, ◌<◌, ◌≡◌, Bool, true, false, cond, ◌&&◌, List, [], ◌∷◌, ◌++◌, Option, none, some, length, file_name_limit, path_limit, Checked, refused, passed, refuse, ◌>>=◌, ◌>>◌, refuse_if, ObjectNameInvalid, is_empty}, proofs.Laws.{refl, ap, le-leb, lt-leb}}
use mathlib.Core.List.{append-nil, append_assoc}
use Rattle.components.specs.Components.{split, components}
use Rattle.names.specs.Names.{valid_file_name}
use Rattle.units.specs.Units.{backslash, colon}
use Rattle.paths.specs.{Paths.{Leaf, no_leaf, Path, leaf_of, ends_in, valid_leaf, checked_leaf, parse_components, parse_path}, Positions.{named, checked}}

-- the last component

module _ (wants_directory : Bool) (l : Leaf) where
  pub leaf_file_bad : valid_file_name file_name_limit l.file ≡ false → valid_leaf wants_directory l ≡ false
  unfolding valid_leaf
  leaf_file_bad e = rw e

abbrev leaf_in : Checked Path → Leaf
leaf_in (refused r) = no_leaf
leaf_in (passed p) = p.leaf

abbrev parents_in : Checked Path → List (List ℕ)
parents_in (refused r) = []
parents_in (passed p) = p.parents

-- a last component that was refused by its colons, and one that was not

pub checked_none : (wants_directory : Bool) (parents : List (List ℕ)) (x : Option Leaf) → refuse ObjectNameInvalid ≡ named parents x → refuse ObjectNameInvalid ≡ checked wants_directory parents x
unfolding named checked checked_leaf ◌>>=◌
checked_none wants_directory parents none e = refl
checked_none wants_directory parents (some l) e = cc

pub never_root : (wants_directory : Bool) (parents : List (List ℕ)) (x : Option Leaf) → passed (record { parents = []; leaf = no_leaf }) ≡ named parents x → refuse ObjectNameInvalid ≡ checked wants_directory parents x
unfolding named checked checked_leaf valid_file_name is_empty ◌>>=◌
never_root wants_directory parents none e = refl
never_root wants_directory parents (some l) e =
    rw (← ap leaf_in e, leaf_file_bad wants_directory no_leaf refl)

pub checked_some : (wants_directory : Bool) (parents ps : List (List ℕ)) (x : Option Leaf) (l : Leaf) (b : Bool) → passed (record { parents = ps; leaf = l }) ≡ named parents x → b ≡ valid_leaf wants_directory l → cond b (passed (record { parents = ps; leaf = l })) (refuse ObjectNameInvalid) ≡ checked wants_directory parents x
unfolding named checked checked_leaf ◌>>=◌
checked_some wants_directory parents ps none l b e v = cc
checked_some wants_directory parents ps (some m) l b e v =
    let same_leaf : l ≡ m = ap leaf_in e in
    let same_parents : ps ≡ parents = ap parents_in e in
    rw (← same_leaf, ← same_parents, ← v) (go b)
  where
    go : (t : Bool) → cond {A = Checked Path} t (passed (record { parents = ps; leaf = l })) (refuse ObjectNameInvalid) ≡ (cond t (passed l) (refuse ObjectNameInvalid) >>= λ valid. passed (record { parents = ps; leaf = valid }))
    go true = refl
    go false = refl

-- components after others

abbrev pub prefixed : List (List ℕ) → Checked Path → Checked Path
unfolding ◌>>=◌
prefixed parents c = c >>= λ p. passed (record { parents = parents ++ p.parents; leaf = p.leaf })

pub prefixed_nil : (c : Checked Path) → prefixed [] c ≡ c
unfolding ◌>>=◌
prefixed_nil (refused s) = refl
prefixed_nil (passed p) = refl

pub prefixed_twice : (ps qs : List (List ℕ)) (c : Checked Path) → prefixed ps (prefixed qs c) ≡ prefixed (ps ++ qs) c
unfolding ◌>>=◌
prefixed_twice ps qs (refused s) = refl
prefixed_twice ps qs (passed p) = rw (append_assoc ps qs p.parents)

module _ (wants_directory : Bool) where
  pub prefixed_last : (ps : List (List ℕ)) (c : List ℕ) → prefixed ps (parse_components wants_directory (c ∷ [])) ≡ checked wants_directory ps (leaf_of (split colon c))
  unfolding parse_components checked ◌>>=◌
  prefixed_last ps c = go (checked_leaf wants_directory (leaf_of (split colon c)))
    where
      go : (l : Checked Leaf) → prefixed ps (l >>= λ v. passed (record { parents = []; leaf = v })) ≡ (l >>= λ v. passed (record { parents = ps; leaf = v }))
      go (refused s) = refl
      go (passed v) = rw (append-nil ps)

  pub parse_more : (c d : List ℕ) (ds : List (List ℕ)) → valid_file_name file_name_limit c ≡ true → parse_components wants_directory (c ∷ d ∷ ds) ≡ prefixed (c ∷ []) (parse_components wants_directory (d ∷ ds))
  unfolding parse_components ◌>>=◌ ◌>>◌ refuse_if
  parse_more c d ds e = rw e

  pub parse_bad : (c d : List ℕ) (ds : List (List ℕ)) → valid_file_name file_name_limit c ≡ false → parse_components wants_directory (c ∷ d ∷ ds) ≡ refuse ObjectNameInvalid
  unfolding parse_components ◌>>=◌ ◌>>◌ refuse_if
  parse_bad c d ds e = rw e

-- the path whole

module _ (wants_directory wants_file : Bool) (path : List ℕ) where
  pub path_long : path_limit < length path → refuse ObjectNameInvalid ≡ parse_path wants_directory wants_file path
  unfolding parse_path ◌>>◌ refuse_if
  path_long h = rw (lt-leb (length path) path_limit h)

  pub path_trail : length path ≤ path_limit → wants_file ≡ true → ends_in backslash path ≡ true → refuse ObjectNameInvalid ≡ parse_path wants_directory wants_file path
  unfolding parse_path ◌>>◌ refuse_if
  path_trail h f e = rw (le-leb (length path) path_limit h, f, e)

  pub path_fits : length path ≤ path_limit → (wants_file && ends_in backslash path) ≡ false → parse_components wants_directory (components path) ≡ parse_path wants_directory wants_file path
  unfolding parse_path ◌>>◌ refuse_if
  path_fits h e = rw (le-leb (length path) path_limit h, e)
