-- What the searches find in a consistent namespace: where a path leads, to a used file or to a directory without the
-- name, which is not marked; and which stream of a file a name is.
use Rattle.base.{specs.Base.{suc, zero, ℕ, any, first, is_empty, same, ◌>>=◌, passed, some_or, BareStream, Namespace, bare_at, bare_used, zero_bare, status_number, file_name_limit, file_used, is_directory, link_used, root, zero_link, FileNo, LinkNo, FileCorruptError, StreamNo, eqb, get_or, Bool, ◌&&◌, false, not, true, List, [], ◌∷◌, map, Option, none, some, ◌≡◌}, proofs.Laws.{and_left, and_right, any_same, any-count, after_found, none_iff, Ends, ends_bind, ends_test, goes, stops, eqb-true, not-false, false≢true, ◌∙◌, ap, refl, sym, arith}}
use lib.Dec.{eqb-suc-zero}
use Rattle.consistency.{proofs.Numbered.{directory_used, same-file}, specs.Relations.{stream_of, unnamed_of}}
use Rattle.lookup.specs.Lookup.{Place, descend, find_link, found, found_root, link_matches, link_number, locate, locate_leaf, missing, place_in, step_into}
use Rattle.names.specs.Names.{valid_file_name}
use Rattle.paths.{proofs.Parsed.LeafFits, specs.Paths.{Leaf, Path}}
use Rattle.stored_names.specs.StoredNames.{units}
use Rattle.stream_lookup.specs.StreamLookup.{find_stream, stream_matches, stream_number}
use Rattle.tables.specs.Tables.{file_at, link_at}
use Rattle.units.specs.Units.{equal_units, folded}
use Rattle.store.proofs.Sequences.Facts.{Early, NamespaceConsistent}

-- a directory that a path may lead through: one that is not marked
pub record Passable (ns : Namespace) (dir : FileNo) : Type 0 where
  pub directory : is_directory (file_at ns.files dir).file_type ≡ true
  pub unmarked : (file_at ns.files dir).delete_pending ≡ false

-- a name that a directory may gain
pub record MissingFits (ns : Namespace) (fold wants_directory : Bool) (dir : FileNo) (leaf : Leaf) : Type 0 where
  pub parent : Passable ns dir
  pub leaf_fits : LeafFits wants_directory leaf
  pub name_valid : valid_file_name file_name_limit leaf.file ≡ true
  pub name_new : any (link_matches fold dir leaf.file) ns.links ≡ false

abbrev pub PlaceFits : Namespace → Bool → Bool → Place → Type 0
PlaceFits ns fold wants_directory (found at) = file_used (file_at ns.files at.file) ≡ true
PlaceFits ns fold wants_directory (missing dir leaf) = MissingFits ns fold wants_directory dir leaf

-- a link whose name matches one that is not empty is used
matching_used : (fold : Bool) (stored name : List ℕ) → is_empty name ≡ false → equal_units fold (units stored) name ≡ true
    → not (eqb (get_or stored 0 0) 0) ≡ true
unfolding units equal_units same is_empty
matching_used fold [] [] n h = absurd (false≢true (sym n))
matching_used fold [] (u ∷ us) n h = absurd (false≢true h)
matching_used fold (zero ∷ s) [] n h = absurd (false≢true (sym n))
matching_used fold (zero ∷ s) (u ∷ us) n h = absurd (false≢true h)
matching_used fold (suc c ∷ s) name n h = ap not (eqb-suc-zero c)

module _ (ns : Namespace) (fold wd : Bool) (ok : NamespaceConsistent ns) where
  -- the components before the last lead from a directory to a directory
  into_ends : (o : Option LinkNo) → Ends Early (Passable ns) (step_into ns o)
  unfolding step_into status_number
  into_ends none = stops (refl, refl)
  into_ends (some l) =
      ends_test _ _ (refl, refl)
      (λ m. ends_test _ _ (refl, refl) (λ d. goes (record { directory = not-false _ d; unmarked = m })))

  descend_ends : (dir : FileNo) (names : List (List ℕ)) → Passable ns dir → Ends Early (Passable ns) (descend ns fold dir names)
  unfolding descend
  descend_ends dir [] i = goes i
  descend_ends dir (name ∷ names) i =
      ends_bind (into_ends (find_link ns fold dir name)) (λ next j. descend_ends next names j)

  leaf_ends : (dir : FileNo) (leaf : Leaf) → Passable ns dir → LeafFits wd leaf → is_empty leaf.file ≡ false
      → Ends Early (PlaceFits ns fold wd) (locate_leaf ns fold dir leaf)
  unfolding locate_leaf find_link place_in link_number link_matches link_used link_at file_used status_number
  leaf_ends dir leaf i fits named = go (first (link_matches fold dir leaf.file) ns.links) refl
    where
      go : (o : Option ℕ) → first (link_matches fold dir leaf.file) ns.links ≡ o
          → Ends Early (PlaceFits ns fold wd) (place_in ns dir leaf (link_number o))
      go none e =
          goes {a = missing dir leaf}
          (record {
            parent = i;
            leaf_fits = fits;
            name_valid = fits.file_valid named;
            name_new = (none_iff (link_matches fold dir leaf.file) ns.links).1 e;
          })
      go (some n) e =
          let l = get_or ns.links n zero_link in
          let used =
          matching_used fold l.name leaf.file named
          (and_right (eqb l.parent.0 dir.0) (equal_units fold (units l.name) leaf.file)
          (after_found (link_matches fold dir leaf.file) zero_link ns.links 0 n e).passes) in
          ends_test _ _ (refl, refl) (λ m. goes (ok.links.slots.used_good n used).names_used_file)

  pub located_ends : (path : Path) → LeafFits wd path.leaf → Ends Early (PlaceFits ns fold wd) (locate ns fold path)
  unfolding locate file_used
  located_ends path fits = go (is_empty path.leaf.file) refl
    where
      from-root : Passable ns root
      from-root = record { directory = ok.files.root_directory; unmarked = ok.marks.root_unmarked }

      go : (b : Bool) → is_empty path.leaf.file ≡ b
          → Ends Early (PlaceFits ns fold wd)
          (elim b [
            | true ↦ passed found_root
            | false ↦ descend ns fold root path.parents >>= (λ dir. locate_leaf ns fold dir path.leaf)
          ])
      go true e = goes (directory_used _ from-root.directory)
      go false e =
          ends_bind (descend_ends root path.parents from-root) (λ dir i. leaf_ends dir path.leaf i fits e)

-- a used stream of the file
pub record StreamThere (ns : Namespace) (f : FileNo) (s : StreamNo) : Type 0 where
  pub stream_used : bare_used (bare_at ns.streams s) ≡ true
  pub stream_file : (bare_at ns.streams s).file ≡ f

abbrev pub SearchFits : Namespace → Bool → FileNo → List ℕ → Option StreamNo → Type 0
SearchFits ns fold f name none = any (stream_matches fold f name) ns.streams ≡ false
SearchFits ns fold f name (some s) = StreamThere ns f s

pub searched : (ns : Namespace) (fold : Bool) (f : FileNo) (name : List ℕ) → SearchFits ns fold f name (find_stream ns fold f name)
unfolding find_stream bare_at stream_matches stream_number
searched ns fold f name = go (first (stream_matches fold f name) ns.streams) refl
  where
    go : (o : Option ℕ) → first (stream_matches fold f name) ns.streams ≡ o → SearchFits ns fold f name (stream_number o)
    go none e = (none_iff (stream_matches fold f name) ns.streams).1 e
    go (some n) e =
        let b = get_or ns.streams n zero_bare in
        let x = bare_used b in
        let y = eqb b.file.0 f.0 in
        let h =
        and_left (x && y) (equal_units fold (units b.name) name)
        (after_found (stream_matches fold f name) zero_bare ns.streams 0 n e).passes in
        record {
          stream_used = and_left x y h;
          stream_file = same-file b.file f (eqb-true b.file.0 f.0 (and_right x y h));
        }

-- a used file has its unnamed stream
unnamed_same : (f : FileNo) (b : BareStream) → unnamed_of f b ≡ stream_matches false f [] b
unfolding unnamed_of stream_of stream_matches equal_units same is_empty
unnamed_same f b = go (units b.name)
  where
    a : Bool
    a = bare_used b && eqb b.file.0 f.0

    go : (us : List ℕ) → (a && is_empty us) ≡ (a && same (map (folded false) us) [])
    go [] = refl
    go (u ∷ us) = refl

pub unnamed_ends : (ns : Namespace) (f : FileNo) → NamespaceConsistent ns → file_used (file_at ns.files f) ≡ true
    → Ends Early (StreamThere ns f) (some_or FileCorruptError (find_stream ns false f []))
unfolding some_or
unnamed_ends ns f ok used = go (find_stream ns false f []) (searched ns false f [])
  where
    go : (o : Option StreamNo) → SearchFits ns false f [] o → Ends Early (StreamThere ns f) (some_or FileCorruptError o)
    go none None-found =
        let e = any-count (unnamed_of f) ns.streams (any_same _ _ (unnamed_same f) ns.streams ∙ None-found) in
        absurd (let z : ⊥ = omega (arith, ok.streams.one_unnamed f used, e) in z)
    go (some s) there = goes there
