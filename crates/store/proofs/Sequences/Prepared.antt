-- The steps before the sharing check, followed once. On a consistent namespace none of them refuses with
-- FILE_CORRUPT_ERROR or SHARING_VIOLATION, and the pending open that they leave fits the namespace.
use Rattle.base.{specs.Base.{◌≤◌, ℕ, any, is_empty, one_of, Checked, ◌>>◌, passed, create, open_if, open_only, write_data, Namespace, status_number, stream_name_limit, file_used, is_data, is_directory, is_used, FileNo, FileType, Request, AccessDenied, FileIsADirectory, NotADirectory, ObjectNameCollision, Status, StreamNo, bit_or, eqb, Bool, ◌&&◌, cond, false, true, List, [], ◌∷◌, ◌≢◌, Option, none, some, ◌≡◌, Unused, Data, Directory}, proofs.Laws.{none≢some, Ends, ends_bind, ends_cond, ends_test, ends_weaker, goes, went, false≢true, true≢false, some_injective, refl, subst, arith}}
use Rattle.bits.proofs.Sets.{within_le, within_or_l}
use Rattle.consistency.{proofs.{Derived.file_good, Numbered.directory_used}, specs.Good.GoodAttributes}
use Rattle.lookup.specs.Lookup.{Place, Resolved, found, missing}
use Rattle.names.specs.Names.{valid_stream_name}
use Rattle.paths.{proofs.Parsed.{LeafFits, parsed_ends}, specs.Paths.Leaf}
use Rattle.stream_lookup.specs.StreamLookup.{stream_matches, find_stream}
use Rattle.tables.specs.Tables.{file_at}
use Rattle.store.proofs.Sequences.{Facts.{AttributesFit, Early, NamespaceConsistent, PendingFits}, Granted.grant_ends, Located.{MissingFits, PlaceFits, SearchFits, StreamThere, located_ends, searched, unnamed_ends}, Requested.{RequestFits, archived, attributes_new_lem, granted_new_lem, replaced, requested}}
use Rattle.store.specs.{Prepare.{Existing, Pending, ReadSharing, admit, admit_existing, admit_file, admit_open, admit_replace, admit_stream, as_offered, file_new, gained, new_type, prepare, replacement}, Request.{deletes_on_close, wants_directory, wants_file}, Target.{Target, existing_directory, existing_stream, missing_file, missing_stream, target, target_at, target_data, target_directory, target_found, target_new, wrong_type}}

-- a status by a test
early_cond : (b : Bool) (x y : Status) → Early (record { status = x }) → Early (record { status = y })
    → Early (record { status = cond b x y })
early_cond true x y h k = h
early_cond false x y h k = k

-- a used file that is no directory
record DataFile (ns : Namespace) (f : FileNo) : Type 0 where
  pub used : file_used (file_at ns.files f) ≡ true
  pub no_directory : is_directory (file_at ns.files f).file_type ≡ false

-- a name that a data file may gain a stream of
record StreamMissing (ns : Namespace) (fold : Bool) (f : FileNo) (name : List ℕ) : Type 0 where
  pub name_valid : valid_stream_name stream_name_limit name ≡ true
  pub name_new : any (stream_matches fold f name) ns.streams ≡ false

-- what steps 1 to 8 leave of a target
abbrev TargetFits : Namespace → Request → Target → Type 0
TargetFits ns r (existing_directory at s) = (file_used (file_at ns.files at.file) ≡ true) × StreamThere ns at.file s
TargetFits ns r (existing_stream at leaf s) = DataFile ns at.file × StreamThere ns at.file s
TargetFits ns r (missing_stream at leaf) = DataFile ns at.file × StreamMissing ns r.fold at.file leaf.stream
TargetFits ns r (missing_file dir leaf) = MissingFits ns r.fold (wants_directory r) dir leaf

module _ (ns : Namespace) (r : Request) (ok : NamespaceConsistent ns) where
  -- step 8
  type_ends : {g : Checked Target} (leaf : Leaf) (is_dir : Bool) → Ends Early (TargetFits ns r) g
      → Ends Early (TargetFits ns r) (wrong_type r leaf is_dir >> g)
  unfolding wrong_type status_number
  type_ends leaf true h =
      ends_test _ _ (early_cond (eqb r.disposition create) ObjectNameCollision FileIsADirectory (refl, refl) (refl, refl))
      (λ e. h)
  type_ends leaf false h =
      ends_test _ _ (early_cond (eqb r.disposition create) ObjectNameCollision NotADirectory (refl, refl) (refl, refl))
      (λ e. h)

  -- step 10
  directory_ends : (at : Resolved) → file_used (file_at ns.files at.file) ≡ true
      → Ends Early (TargetFits ns r) (target_directory ns r at)
  unfolding target_directory status_number
  directory_ends at used =
      ends_test _ _ (early_cond (eqb at.file.0 0) AccessDenied ObjectNameCollision (refl, refl) (refl, refl))
      (λ e. ends_bind (unnamed_ends ns at.file ok used) (λ s there. goes (used, there)))

  -- step 11
  data_ends : (at : Resolved) (leaf : Leaf) (o : Option StreamNo) → DataFile ns at.file
      → valid_stream_name stream_name_limit leaf.stream ≡ true → SearchFits ns r.fold at.file leaf.stream o
      → Ends Early (TargetFits ns r) (target_data ns r at leaf o)
  unfolding target_data status_number
  data_ends at leaf none data_file valid new =
      ends_test _ _ (refl, refl) (λ e. goes (data_file, record { name_valid = valid; name_new = new }))
  data_ends at leaf (some s) data_file valid there =
      ends_test _ _ (refl, refl) (λ m. ends_test _ _ (refl, refl) (λ e. goes (data_file, there)))

  place_ends : (leaf : Leaf) (p : Place) → LeafFits (wants_directory r) leaf → PlaceFits ns r.fold (wants_directory r) p
      → Ends Early (TargetFits ns r) (target_at ns r leaf p)
  unfolding target_at target_found target_new status_number
  place_ends leaf (found at) fits used =
      let is_dir = is_directory (file_at ns.files at.file).file_type in
      type_ends leaf is_dir
      (ends_cond is_dir (λ e. directory_ends at used)
      (λ e.
      data_ends at leaf (find_stream ns r.fold at.file leaf.stream) (record { used = used; no_directory = e })
      fits.stream_valid (searched ns r.fold at.file leaf.stream)))
  place_ends leaf (missing dir name) fits new = ends_test _ _ (refl, refl) (λ e. ends_test _ _ (refl, refl) (λ w. goes new))

  -- the steps in order
  target_ends : (units : List ℕ) → Ends Early (λ t. RequestFits r × TargetFits ns r t) (target ns r units)
  unfolding target status_number
  target_ends units =
      ends_test _ _ (refl, refl)
      (λ a.
      ends_test _ _ (refl, refl)
      (λ b.
      ends_test _ _ (refl, refl)
      (λ c.
      ends_bind (parsed_ends (refl, refl) (wants_directory r) (wants_file r) units)
      (λ path fits.
      ends_test _ _ (refl, refl)
      (λ d.
      ends_bind (located_ends ns r.fold (wants_directory r) ok path fits)
      (λ p q.
      ends_weaker (λ s early. early) (λ t g. (requested r a b, g)) (place_ends path.leaf p fits q)))))))

used_data : (t : FileType) → is_used t ≡ true → is_directory t ≡ false → is_data t ≡ true
unfolding is_used is_directory is_data
used_data Unused u d = u
used_data Data u d = refl
used_data Directory u d = absurd (true≢false d)

data_attributes : (ns : Namespace) (f : FileNo) (a : ℕ) → DataFile ns f → GoodAttributes false a → AttributesFit ns f a
unfolding file_used
data_attributes ns f a data_file h =
    record {
      data_file = used_data (file_at ns.files f).file_type data_file.used data_file.no_directory;
      good = h;
    }

-- access that gains bits stays nonzero
gains : (a b : ℕ) → a ≢ 0 → bit_or a b ≢ 0
gains a b nz e = nz (let h : a ≤ bit_or a b = within_le a (bit_or a b) (within_or_l a b) in omega (arith, e))

module _ (ns : Namespace) (r : Request) (ok : NamespaceConsistent ns) (fits : RequestFits r) where
  -- steps 10 and 11, a stream that is there
  existing_ends : (e : Existing) → file_used (file_at ns.files e.file) ≡ true → StreamThere ns e.file e.stream
      → e.terms.granted ≢ 0
      → ((a : ℕ) → e.attributes ≡ some a → AttributesFit ns e.file a)
      → Ends Early (PendingFits ns (deletes_on_close r)) (admit_existing ns r e)
  unfolding admit_existing
  existing_ends e used there asked attributes =
      ends_bind (grant_ends ns r e.file e.terms.granted ok fits used asked)
      (λ terms g.
      goes
      (record {
        terms = g.0;
        stream_used = there.stream_used;
        stream_file = there.stream_file;
        attributes = attributes;
        root_stays = g.1;
      }))

  open_ends : (f : FileNo) (s : StreamNo) (sharing : ReadSharing) → file_used (file_at ns.files f) ≡ true
      → StreamThere ns f s → Ends Early (PendingFits ns (deletes_on_close r)) (admit_open ns r f s sharing)
  unfolding admit_open
  open_ends f s sharing used there = existing_ends _ used there fits.access_nonzero (λ a e. absurd (none≢some e))

  replacement_fits : (f : FileNo) (unnamed : Bool) (a : ℕ) → DataFile ns f → replacement r unnamed ≡ some a → AttributesFit ns f a
  unfolding replacement
  replacement_fits f true a data_file e =
      rw (← some_injective _ a e) (data_attributes ns f _ data_file (replaced r fits))
  replacement_fits f false a data_file e = absurd (none≢some e)

  replace_ends : (f : FileNo) (s : StreamNo) (unnamed : Bool) → DataFile ns f → StreamThere ns f s
      → Ends Early (PendingFits ns (deletes_on_close r)) (admit_replace ns r f s unnamed)
  unfolding admit_replace status_number
  replace_ends f s unnamed data_file there =
      ends_test _ _ (refl, refl)
      (λ h.
      existing_ends _ data_file.used there (gains r.access (gained r unnamed) fits.access_nonzero)
      (λ a e. replacement_fits f unnamed a data_file e))

  -- step 11, stream missing
  stream_ends : (f : FileNo) (leaf : Leaf) → DataFile ns f → StreamMissing ns r.fold f leaf.stream
      → Ends Early (PendingFits ns (deletes_on_close r)) (admit_stream ns r f leaf)
  unfolding admit_stream status_number
  stream_ends f leaf data_file new =
      let old =
      subst (λ (b : Bool). GoodAttributes b (file_at ns.files f).attributes) data_file.no_directory
      (file_good ok.files f data_file.used).attributes in
      ends_bind
      (grant_ends ns r f (bit_or r.access write_data) ok fits data_file.used
      (gains r.access write_data fits.access_nonzero))
      (λ terms g.
      ends_test _ _ (refl, refl)
      (λ w.
      goes (
        record {
          attributes = data_attributes ns f _ data_file (archived _ old);
          name_valid = new.name_valid;
          fold = r.fold;
          name_new = new.name_new;
        },
        g.0,
      )))

  -- step 9
  file_ends : (dir : FileNo) (leaf : Leaf) → MissingFits ns r.fold (wants_directory r) dir leaf
      → Ends Early (PendingFits ns (deletes_on_close r)) (admit_file ns r dir leaf)
  unfolding admit_file file_new file_used new_type is_used is_directory status_number
  file_ends dir leaf new =
      let parent = file_at ns.files dir in
      ends_test _ _ (refl, refl)
      (λ t.
      ends_test _ _ (refl, refl)
      (λ k.
      ends_test _ _ (refl, refl)
      (λ m.
      goes (
        record {
          parent = new.parent.directory;
          parent_stays = new.parent.unmarked;
          name_valid = new.name_valid;
          fold = r.fold;
          name_new = new.name_new;
          stream_valid = new.leaf_fits.stream_valid;
          used = type_used (wants_directory r);
          good =
              record {
                attributes = attributes_new_lem r parent;
                masks_within = (file_good ok.files dir (directory_used parent.file_type new.parent.directory)).masks_within;
              };
          unmarked = refl;
          directory_unnamed = λ e. new.leaf_fits.unnamed (no_colon_lem (wants_directory r) new.leaf_fits.no_colon e);
        },
        granted_new_lem r fits,
      ))))
    where
      type_used : (b : Bool) → is_used (cond b Directory Data) ≡ true
      type_used true = refl
      type_used false = refl

      no_colon_lem : (b : Bool) → (b && leaf.colon) ≡ false → is_directory (cond b Directory Data) ≡ true → leaf.colon ≡ false
      no_colon_lem true e d = e
      no_colon_lem false e d = absurd (false≢true d)

  admit_ends : (t : Target) → TargetFits ns r t → Ends Early (PendingFits ns (deletes_on_close r)) (admit ns r t)
  unfolding admit
  admit_ends (existing_directory at s) (used, there) = open_ends at.file s _ used there
  admit_ends (existing_stream at leaf s) (data_file, there) =
      ends_cond (one_of r.disposition (open_only ∷ open_if ∷ []))
      (λ e. open_ends at.file s as_offered data_file.used there)
      (λ e. replace_ends at.file s (is_empty leaf.stream) data_file there)
  admit_ends (missing_stream at leaf) (data_file, new) = stream_ends at.file leaf data_file new
  admit_ends (missing_file dir leaf) new = file_ends dir leaf new

pub prepare_ends : (ns : Namespace) (r : Request) (units : List ℕ) → NamespaceConsistent ns
    → Ends Early (PendingFits ns (deletes_on_close r)) (prepare ns r units)
unfolding prepare
prepare_ends ns r units ok =
    ends_bind (target_ends ns r ok units) (λ t fits. admit_ends ns r ok fits.0 t fits.1)

pub prepared : (ns : Namespace) (r : Request) (units : List ℕ) (p : Pending) → NamespaceConsistent ns
    → prepare ns r units ≡ passed p → PendingFits ns (deletes_on_close r) p
prepared ns r units p ok e = went (rw e at (prepare_ends ns r units ok))
