-- A file goes that is not the root and has no children, with its link and its streams: the tables that are left.
use Rattle.base.{specs.Base.{ℕ, ◌<◌, ◌≡◌, Bool, true, false, ◌&&◌, List, [], ◌∷◌, ◌≢◌, length, get_or, set, count, is_empty, root, zero_file, zero_link, is_used, is_directory, file_used, link_used, BareStream, zero_bare, bare_used, FileNo, FileType, File, Link}, proofs.Laws.{refl, sym, ◌∙◌, ap, subst, subst₂, arith, ℕ_discrete, cond_true, cond_false, by_cases, not_both, refuted, and_both, any_fails, Clears, map_clears, count_clear, none_clear}}
use Rattle.consistency.{specs.{Good.{GoodLink, LinkNamesDiffer, GoodStream, StreamNamesDiffer}, Relations.{type_at, link_to, child_of, has_children, parent_of, stream_of, unnamed_of}, Consistent.{GoodLinkOf, FilesConsistent, LinksConsistent, GoodStreamOf, StreamsConsistent, MarksConsistent}}, proofs.{Links.link_in, Numbered.{same-file, file_iff, directory-file}, Relations.{link_to_iff, stream_of_iff}, Slots.slots_set, Parents.{parent_here, parent_next, parent_link, parent_none}}}
use Rattle.stored_names.specs.StoredNames.{units}
use Rattle.tables.specs.Tables.{file_at, link_at}
use Rattle.store.proofs.Sequences.{Changes.{Files.{file_at_new, file_at_other}, Parents.climb-same}, Closing.Slots.{slots_clear, two_clear}}
use Rattle.store.specs.Close.{cleared}

abbrev pub files_left : FileNo → List File → List File
files_left f fs = set fs f.0 zero_file

abbrev pub links_left : FileNo → List Link → List Link
links_left f ls = cleared (link_to f) zero_link ls

abbrev pub streams_left : FileNo → List BareStream → List BareStream
streams_left f ss = cleared (stream_of f) zero_bare ss

-- the files
module _ (fs : List File) (f : FileNo) (below : f.0 < length fs) where
  file_other : (g : FileNo) → g ≢ f → file_at (files_left f fs) g ≡ file_at fs g
  file_other g n = file_at_other fs f zero_file below g (λ e. n (same-file g f e))

  pub file-gone : (g : FileNo) → g ≡ f → file_at (files_left f fs) g ≡ zero_file
  file-gone g e = ap (file_at (files_left f fs)) e ∙ file_at_new fs f zero_file below

  -- a used one is another
  used_other : (g : FileNo) → file_used (file_at (files_left f fs) g) ≡ true → g ≢ f
  unfolding file_used is_used
  used_other g u e = not_both u (ap file_used (file-gone g e))

  used_before : (g : FileNo) → file_used (file_at (files_left f fs) g) ≡ true → file_used (file_at fs g) ≡ true
  used_before g u = ap file_used (sym (file_other g (used_other g u))) ∙ u

  type_other : (g : FileNo) → g ≢ f → type_at (files_left f fs) g ≡ type_at fs g
  type_other g n = ap (λ (x : File). x.file_type) (file_other g n)

  pub marked_before : (g : FileNo) → (file_at (files_left f fs) g).delete_pending ≡ true → (file_at fs g).delete_pending ≡ true
  marked_before g p =
      ap (λ (x : File). x.delete_pending)
      (sym (file_other g (λ e. not_both p (ap (λ (x : File). x.delete_pending) (file-gone g e)))))
      ∙ p

  pub files_left_lem : FilesConsistent fs → f ≢ root → FilesConsistent (files_left f fs)
  unfolding file_used is_used
  files_left_lem h r =
      record {
        slots = slots_set h.slots f.0 zero_file (λ u. absurd (not_both u refl)) (λ u. refl);
        root_directory = ap is_directory (type_other root (λ e. r (sym e))) ∙ h.root_directory;
      }

-- no link to another file goes, so its parent stays
other_link : (f g : FileNo) (l : Link) → g ≢ f → link_to f l ≡ true → link_to g l ≡ false
other_link f g l n e = refuted (link_to g l) (λ d. n (sym ((link_to_iff g l).0 d).1 ∙ ((link_to_iff f l).0 e).1))

parent_left : (f g : FileNo) → g ≢ f → (ls : List Link) → parent_of (links_left f ls) g ≡ parent_of ls g
unfolding cleared link_to link_used
parent_left f g n [] = refl
parent_left f g n (l ∷ ls) =
    let rest : List Link = links_left f ls in
    let before = parent_left f g n ls in
    by_cases (link_to f l)
    (λ e.
    ap (λ (x : Link). parent_of (x ∷ rest) g) (cond_true zero_link l e)
    ∙ parent_next g zero_link rest refl
    ∙ before
    ∙ sym (parent_next g l ls (other_link f g l n e)))
    (λ e.
    ap (λ (x : Link). parent_of (x ∷ rest) g) (cond_false zero_link l e)
    ∙ by_cases (link_to g l) (λ h. parent_here g l rest h ∙ sym (parent_here g l ls h))
    (λ h. parent_next g l rest h ∙ before ∙ sym (parent_next g l ls h)))

-- the links
module _ (fs : List File) (ls : List Link) (f : FileNo) (below : f.0 < length fs) (childless : has_children ls f ≡ false) where
  links_clear : Clears zero_link (λ i. link_to f (get_or ls i zero_link)) ls (links_left f ls)
  unfolding cleared
  links_clear = map_clears zero_link ls (link_to f)

  -- it is no link's parent, nor that of another file
  no_parent : (i : ℕ) → link_used (get_or ls i zero_link) ≡ true → (get_or ls i zero_link).parent ≢ f
  unfolding has_children child_of link_at
  no_parent i u e =
      not_both (and_both u ((file_iff (get_or ls i zero_link).parent f).1 e))
      (any_fails (child_of f) zero_link ls childless i (link_in ls (record { 0 = i }) u))

  parent_other : (g : FileNo) → g ≢ f → parent_of ls g ≢ f
  parent_other g n e = go (ℕ_discrete (count (link_to g) ls) 0)
    where
      go : Dec (count (link_to g) ls ≡ 0) → ⊥
      go (yes z) = n (sym (parent_none ls g z) ∙ e)
      go (no z) =
          let q = parent_link ls g (omega arith) in
          no_parent q.0 ((link_to_iff g (get_or ls q.0 zero_link)).0 q.1).0 (sym q.2 ∙ e)

  good_link_lem : (i : ℕ) → link_to f (get_or ls i zero_link) ≡ false → link_used (get_or ls i zero_link) ≡ true
      → GoodLinkOf fs (get_or ls i zero_link) → GoodLinkOf (files_left f fs) (get_or ls i zero_link)
  good_link_lem i t u g =
      let l : Link = get_or ls i zero_link in
      subst₂ (λ (a b : FileType). GoodLink a b l)
      (sym (type_other fs f below l.file (λ e. not_both ((link_to_iff f l).1 (u, e)) t)))
      (sym (type_other fs f below l.parent (no_parent i u))) g

  links_count : (g : FileNo) → g ≢ f → count (link_to g) (links_left f ls) ≡ count (link_to g) ls
  unfolding link_to link_used
  links_count g n = count_clear links_clear (link_to g) refl (λ i e. other_link f g (get_or ls i zero_link) n e)

  pub links_left_lem : LinksConsistent fs ls → f ≢ root → LinksConsistent (files_left f fs) (links_left f ls)
  unfolding link_used
  links_left_lem h r =
      record {
        slots = slots_clear link_used refl links_clear h.slots good_link_lem;
        root_has_none = links_count root (λ e. r (sym e)) ∙ h.root_has_none;
        others_have_one =
            λ g n u. links_count g (used_other fs f below g u) ∙ h.others_have_one g n (used_before fs f below g u);
        parents_lead_to_root =
            λ g u.
            let q = h.parents_lead_to_root g (used_before fs f below g u) in (
              q.0,
              climb-same (λ k. k ≢ f) ls (links_left f ls) parent_other (λ k n. parent_left f k n ls) q.0 g (used_other fs f below g u)
                  ∙ q.1,
            );
        names_differ = two_clear link_used refl links_clear LinkNamesDiffer h.names_differ;
      }

  pub marks-left : MarksConsistent fs ls → f ≢ root → MarksConsistent (files_left f fs) (links_left f ls)
  unfolding has_children child_of link_used
  marks-left h r =
      record {
        root_unmarked = ap (λ (x : File). x.delete_pending) (file_other fs f below root (λ e. r (sym e))) ∙ h.root_unmarked;
        marked_childless = λ g p. none_clear links_clear (child_of g) refl (h.marked_childless g (marked_before fs f below g p));
      }

-- the streams
pub streams_clear : (ss : List BareStream) (f : FileNo) → Clears zero_bare (λ i. stream_of f (get_or ss i zero_bare)) ss (streams_left f ss)
unfolding cleared
streams_clear ss f = map_clears zero_bare ss (stream_of f)

other_stream : (f g : FileNo) (s : BareStream) → g ≢ f → stream_of f s ≡ true → stream_of g s ≡ false
other_stream f g s n e = refuted (stream_of g s) (λ d. n (sym ((stream_of_iff g s).0 d).1 ∙ ((stream_of_iff f s).0 e).1))

module _ (fs : List File) (ss : List BareStream) (f : FileNo) (below : f.0 < length fs) where
  good_stream_lem : (i : ℕ) → stream_of f (get_or ss i zero_bare) ≡ false → bare_used (get_or ss i zero_bare) ≡ true
      → GoodStreamOf fs (get_or ss i zero_bare) → GoodStreamOf (files_left f fs) (get_or ss i zero_bare)
  good_stream_lem i t u g =
      let s : BareStream = get_or ss i zero_bare in
      subst (λ (a : FileType). GoodStream a s)
      (sym (type_other fs f below s.file (λ e. not_both ((stream_of_iff f s).1 (u, e)) t))) g

  -- how many streams another file has, and how many of them unnamed
  streams_count : (g : FileNo) → g ≢ f → count (stream_of g) (streams_left f ss) ≡ count (stream_of g) ss
  unfolding stream_of bare_used is_used
  streams_count g n = count_clear (streams_clear ss f) (stream_of g) refl (λ i e. other_stream f g (get_or ss i zero_bare) n e)

  unnamed_count : (g : FileNo) → g ≢ f → count (unnamed_of g) (streams_left f ss) ≡ count (unnamed_of g) ss
  unfolding stream_of unnamed_of bare_used is_used
  unnamed_count g n =
      count_clear (streams_clear ss f) (unnamed_of g) refl
      (λ i e. ap (λ (b : Bool). b && is_empty (units (get_or ss i zero_bare).name)) (other_stream f g (get_or ss i zero_bare) n e))

  pub streams_left_lem : StreamsConsistent fs ss → StreamsConsistent (files_left f fs) (streams_left f ss)
  unfolding bare_used is_used
  streams_left_lem h =
      record {
        slots = slots_clear bare_used refl (streams_clear ss f) h.slots good_stream_lem;
        one_unnamed = λ g u. unnamed_count g (used_other fs f below g u) ∙ h.one_unnamed g (used_before fs f below g u);
        directories_have_one =
            λ g d.
            let n = used_other fs f below g (directory-file (files_left f fs) g d) in
            streams_count g n ∙ h.directories_have_one g (ap is_directory (sym (type_other fs f below g n)) ∙ d);
        names_differ = two_clear bare_used refl (streams_clear ss f) StreamNamesDiffer h.names_differ;
      }
