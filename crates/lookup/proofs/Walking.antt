-- The walk at a place of the path before the last component: at its end, at a component that leads into a directory, and
-- at one that does not.
use Rattle.base.{specs.Base.{ℕ, ◌≡◌, Bool, true, false, cond, List, [], ◌∷◌, Option, none, some, drop, is_empty, not, root, is_directory, Namespace, namespace, Checked, refused, passed, refuse, ◌>>=◌, ◌>>◌, refuse_if, Status, ObjectPathNotFound, DeletePending, FileNo, LinkNo, FileType, Volume}, proofs.Laws.{refl}}
use Rattle.components.{specs.{Components.components, Positions.{next_component, part_of}}, proofs.Places.{next_found, next_none}}
use Rattle.paths.specs.Paths.{Leaf}
use Rattle.tables.specs.Tables.{file_at, link_at}
use Rattle.lookup.specs.{Lookup.{find_link, step_into, descend, Place, missing, found_root, found_by, place_in, locate_leaf, locate}, Answers.{last_step, walked_from}, declared.Walked.Walked}
use Rattle.lookup.specs.declared.Walked.TheVariants as End

-- the definition's step from what the search for a component before the last finds, by what the code reads in the tables

module _ (v : Volume) where
  pub step_lost : (o : Option LinkNo) → o ≡ none → step_into (namespace v) o ≡ refuse ObjectPathNotFound
  unfolding step_into
  step_lost none e = refl
  step_lost (some l) e = cc

  pub step_found : (o : Option LinkNo) {l : LinkNo} {next : FileNo} {marked : Bool} {kind : FileType} {b : Bool} → o ≡ some l
      → next ≡ (link_at v.links l).file → marked ≡ (file_at v.files next).delete_pending
      → kind ≡ (file_at v.files next).file_type → b ≡ is_directory kind
      → step_into (namespace v) o ≡ cond marked (refuse DeletePending) (cond b (passed next) (refuse ObjectPathNotFound))
  unfolding step_into namespace refuse_if ◌>>◌
  step_found none e f m g h = cc
  step_found (some k) {l} {next} {marked} {kind} {b} e f m g h = let q : k ≡ l = cc in rw (q, ← f, ← m, ← g, ← h) (tests marked b)
    where
      tests : (marked b : Bool)
          → (do
            refuse_if marked DeletePending
            refuse_if (not b) ObjectPathNotFound
            passed next)
          ≡ cond marked (refuse DeletePending) (cond b (passed next) (refuse ObjectPathNotFound))
      tests true b = refl
      tests false true = refl
      tests false false = refl

-- the walk from a directory, by what is left of the components

module _ (ns : Namespace) (fold : Bool) (dir : FileNo) (name : List ℕ) where
  ends : walked_from ns fold dir [] name ≡ passed (last_step dir (find_link ns fold dir name))
  unfolding walked_from descend ◌>>=◌
  ends = refl

  module _ (component : List ℕ) (rest : List (List ℕ)) where
    stops : (s : Status) → step_into ns (find_link ns fold dir component) ≡ refuse s → walked_from ns fold dir (component ∷ rest) name ≡ refuse s
    unfolding walked_from descend ◌>>=◌
    stops s e = rw (e, descend)

    goes_on : (next : FileNo) → step_into ns (find_link ns fold dir component) ≡ passed next
        → walked_from ns fold dir (component ∷ rest) name ≡ walked_from ns fold next rest name
    unfolding walked_from descend ◌>>=◌
    goes_on next e = rw e

-- the same by places: `parents` is the path up to its last component, and the walk has come to `at`

module _ (ns : Namespace) (fold : Bool) (dir : FileNo) (name parents : List ℕ) (at : ℕ) where
  abbrev pub walk_left : Checked Walked
  walk_left = walked_from ns fold dir (components (drop at parents)) name

  pub walk_ends_lem : (next_component parents at).start ≡ (next_component parents at).end → walk_left ≡ passed (last_step dir (find_link ns fold dir name))
  walk_ends_lem e = rw (next_none parents at e) (ends ns fold dir name)

  module _ (more : (next_component parents at).start ≡ (next_component parents at).end → ⊥) where
    abbrev component : List ℕ
    component = part_of parents (next_component parents at)

    abbrev rest : List (List ℕ)
    rest = components (drop (next_component parents at).end parents)

    pub walk_stops : (s : Status) → step_into ns (find_link ns fold dir component) ≡ refuse s → walk_left ≡ refuse s
    walk_stops s e = rw (next_found parents at more) (stops ns fold dir name component rest s e)

    pub walk_goes_on : (next : FileNo) → step_into ns (find_link ns fold dir component) ≡ passed next → walk_left ≡ walked_from ns fold next rest name
    walk_goes_on next e = rw (next_found parents at more) (goes_on ns fold dir name component rest next e)

-- where the walk leads

unfoldable pub place_from : Namespace → Leaf → Walked → Checked Place
place_from ns leaf (End.Link l) = do
  refuse_if (file_at ns.files (link_at ns.links l).file).delete_pending DeletePending
  passed (found_by ns l)
place_from ns leaf (End.Missing dir) = passed (missing dir leaf)

-- a name without units is none
module _ (ns : Namespace) (fold : Bool) (parents : List (List ℕ)) (leaf : Leaf) where
  pub root-leads : is_empty leaf.file ≡ true → passed found_root ≡ locate ns fold (record { parents = parents; leaf = leaf })
  unfolding locate
  root-leads e = rw (e, locate)

  pub walk_leads : is_empty leaf.file ≡ false
      → (walked_from ns fold root parents leaf.file >>= place_from ns leaf) ≡ locate ns fold (record { parents = parents; leaf = leaf })
  unfolding place_from walked_from last_step locate locate_leaf place_in ◌>>=◌
  walk_leads named = rw (named, locate) (go (descend ns fold root parents))
    where
      step : (dir : FileNo) (o : Option LinkNo) → place_from ns leaf (last_step dir o) ≡ place_in ns dir leaf o
      step dir none = refl
      step dir (some l) = refl

      go : (d : Checked FileNo)
          → ((d >>= λ dir. passed (last_step dir (find_link ns fold dir leaf.file))) >>= place_from ns leaf)
          ≡ (d >>= λ dir. locate_leaf ns fold dir leaf)
      go (refused r) = refl
      go (passed dir) = step dir (find_link ns fold dir leaf.file)
