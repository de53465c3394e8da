-- A link to a new file, written at a free number: the links stay consistent.
use Rattle.base.{specs.Base.{ℕ, suc, ◌+◌, ◌≡◌, true, false, List, ◌≢◌, get_or, set, count, root, zero_link, file_used, link_used, FileType, FileNo, LinkNo, File, Link}, proofs.Laws.{sym, ◌∙◌, ap, subst, ⊎_elim, ℕ_discrete, arith, not_both, one, refuted, count_none, set_cases, FreeSlot, count-gained, one_before, one_added}}
use Rattle.consistency.{specs.{Relations.{type_at, link_to, parent_of, climb}, Good.{GoodLink, LinkNamesDiffer}, Consistent.LinksConsistent}, proofs.{Slots.{slots_good, slots_set, two_set}, Numbered.{same-file, directory-file}, Relations.link_to_iff, Parents.{parent_link, parent_none, parent_used}}}
use Rattle.tables.specs.Tables.{file_at, link_at}
use Rattle.store.proofs.Sequences.Changes.{Types.{SameType, link_still}, Files.{FileAdded, not_added, used_kept_lem, used_before}, Parents.{parent_set, climb-same}}

-- a link that the files and links may gain
pub record LinkSound (fs gs : List File) (ls : List Link) (k : Link) : Type 0 where
  pub used : link_used k ≡ true
  pub good : GoodLink (type_at gs k.file) (type_at fs k.parent) k
  pub name_new : (m : LinkNo) → link_used (link_at ls m) ≡ true → LinkNamesDiffer (link_at ls m) k

module _ (fs gs : List File) (ls : List Link) (n : FileNo) (l : LinkNo) (k : Link) (h : LinksConsistent fs ls)
    (added : FileAdded fs gs n)
    (slot : FreeSlot link_used zero_link ls l.0)
    (sound : LinkSound fs gs ls k)
    (own : k.file ≡ n)
    (not_root : n.0 ≢ 0)
  where
    -- the new file had no link, and the new link is to no other file
    no_link : (i : ℕ) → link_to n (get_or ls i zero_link) ≡ true → ⊥
    unfolding file_used
    no_link i t =
        not_added added (get_or ls i zero_link).file (h.slots.used_good i ((link_to_iff n _).0 t).0).names_used_file
        (ap (λ (f : FileNo). f.0) ((link_to_iff n _).0 t).1)

    other_file : (f : FileNo) → f.0 ≢ n.0 → link_to f k ≡ false
    other_file f e = refuted (link_to f k) (λ t. e (ap (λ (g : FileNo). g.0) (sym ((link_to_iff f k).0 t).1 ∙ own)))

    free_no_link : (f : FileNo) → link_to f (get_or ls l.0 zero_link) ≡ false
    free_no_link f = refuted _ (λ t. not_both ((link_to_iff f _).0 t).0 slot.free)

    count-after : (f : FileNo) → count (link_to f) (set ls l.0 k) ≡ count (link_to f) ls + one (link_to f k)
    count-after f = count-gained ls l.0 k zero_link slot.below (link_to f) (free_no_link f)

    -- one link to every file but the root
    one_each : (f : FileNo) → f ≢ root → file_used (file_at gs f) ≡ true → count (link_to f) (set ls l.0 k) ≡ 1
    one_each f r u = count-after f ∙ go (ℕ_discrete f.0 n.0)
      where
        go : Dec (f.0 ≡ n.0) → count (link_to f) ls + one (link_to f k) ≡ 1
        go (yes e) =
            let same = same-file f n e in
            one_added (ap (λ (g : FileNo). count (link_to g) ls) same ∙ count_none (link_to n) zero_link ls no_link)
            ((link_to_iff f k).1 (sound.used, own ∙ sym same))
        go (no e) = one_before (h.others_have_one f r (used_before added f e u)) (other_file f e)

    same : (f : FileNo) → file_used (file_at fs f) ≡ true → SameType fs gs f
    same f u = ap (λ (x : File). x.file_type) (used_kept_lem added f u)

    -- the way up
    Before : FileNo → Type 0
    Before f = file_used (file_at fs f) ≡ true

    parent_before : file_used (file_at fs k.parent) ≡ true
    parent_before = directory-file fs k.parent sound.good.parent_directory

    stays_before : (f : FileNo) → Before f → Before (parent_of ls f)
    unfolding Before
    stays_before f u = go (ℕ_discrete f.0 0)
      where
        go : Dec (f.0 ≡ 0) → Before (parent_of ls f)
        go (yes e) =
            ap (λ (g : FileNo). file_used (file_at fs g))
            (parent_none ls f (ap (λ (g : FileNo). count (link_to g) ls) (same-file f root e) ∙ h.root_has_none))
            ∙ u
        go (no e) =
            parent_used fs ls h.others_have_one
            (λ i v. directory-file fs _ (h.slots.used_good i v).parent_directory)
            f
            (λ q. e (ap (λ (g : FileNo). g.0) q))
            u

    same_parent : (f : FileNo) → Before f → parent_of (set ls l.0 k) f ≡ parent_of ls f
    unfolding Before
    same_parent f u = parent_set f ls l.0 k (free_no_link f) (other_file f (not_added added f u))

    new_parent : parent_of (set ls l.0 k) n ≡ k.parent
    new_parent =
        let one_link = one_each n (λ q. not_root (ap (λ (g : FileNo). g.0) q)) added.there in
        let q = parent_link (set ls l.0 k) n (omega (arith, one_link)) in
        q.2
        ∙ ⊎_elim (λ c. ap (λ (x : Link). x.parent) c.1)
        (λ c. absurd (no_link q.0 (ap (link_to n) (sym c.1) ∙ q.1)))
        (set_cases ls l.0 q.0 k zero_link slot.below)

    leads_to_root : (f : FileNo) → file_used (file_at gs f) ≡ true → (m : ℕ) × (climb (set ls l.0 k) m f ≡ root)
    unfolding climb Before
    leads_to_root f u = go (ℕ_discrete f.0 n.0)
      where
        as_before : (m : ℕ) (g : FileNo) → file_used (file_at fs g) ≡ true → climb (set ls l.0 k) m g ≡ climb ls m g
        as_before = climb-same Before ls (set ls l.0 k) stays_before same_parent

        go : Dec (f.0 ≡ n.0) → (m : ℕ) × (climb (set ls l.0 k) m f ≡ root)
        go (yes e) =
            let q = h.parents_lead_to_root k.parent parent_before in (
              suc q.0,
              ap (climb (set ls l.0 k) q.0)
                  (ap (parent_of (set ls l.0 k)) (same-file f n e) ∙ new_parent)
                  ∙ as_before q.0 k.parent parent_before
                  ∙ q.1,
            )
        go (no e) =
            let b = used_before added f e u in
            let q = h.parents_lead_to_root f b in
            (q.0, as_before q.0 f b ∙ q.1)

    pub links_with : LinksConsistent gs (set ls l.0 k)
    unfolding link_at
    links_with =
        record {
          slots =
              slots_set (slots_good (link_still fs gs same) h.slots) l.0 k
              (λ u. subst (λ (t : FileType). GoodLink (type_at gs k.file) t k) (sym (same k.parent parent_before)) sound.good)
              (λ u. absurd (not_both sound.used u));
          root_has_none =
              omega (arith, count-after root, h.root_has_none, ap one (other_file root (λ e. not_root (sym e))));
          others_have_one = one_each;
          parents_lead_to_root = leads_to_root;
          names_differ =
              two_set link_used zero_link LinkNamesDiffer (λ x y d e n. d (sym e) (sym n)) ls h.names_differ l.0 k
              (λ j w u e n. sound.name_new (record { 0 = j }) u (sym e) (sym n));
        }
