-- The links table: over consistent files the test answers true exactly when the statements hold. The files' number
-- bounds the steps to the root.
use Rattle.base.{specs.Base.{ℕ, ◌<◌, ◌≡◌, true, cond, List, ◌↔◌, ◌≢◌, eqb, length, all_from, count, keep, pairs, same, file_slots, root, zero_link, file_used, link_used, FileNo, LinkNo, File, Link}, proofs.Laws.{refl, sym, ◌∙◌, ap, by_cases, and_iff, eqb_iff, cond_true, cond_false, fails_iff, guard_iff, same_iff}}
use Rattle.lists.proofs.Places.{used_below}
use Rattle.stored_names.specs.StoredNames.{units}
use Rattle.tables.specs.Tables.{file_at, link_at}
use Rattle.consistency.proofs.{Slots.{Decides, slots_iff, two_iff}, Numbered.{same-file, file_iff, names_iff, directory-file, files_each}, Parents.{links_kept, reaches-kept, reaches_climbs, few_steps}}
use Rattle.consistency.specs.{Relations.{link_to, reaches}, Slots.EveryTwo, Good.{good_link, is_zero_link, link_names_differ, LinkNamesDiffer}, Consistent.{FilesConsistent, GoodLinkOf, LinksConsistent}, Test.{good_link_of, links_of_file, links_test}}

pub link_decides : (fs : List File) → Decides link_used (good_link_of fs) is_zero_link zero_link (GoodLinkOf fs)
unfolding link_used good_link is_zero_link same
link_decides fs =
    record {
      zero_free = refl;
      decides_good =
          λ l u. (
            λ h.
                let p = simp (good_link, and_iff) at h in
                record { name_stored = p.0.0.0; name_valid = p.0.0.1; names_used_file = p.0.1; parent_directory = p.1 },
            λ g. simp (good_link, and_iff) (((g.name_stored, g.name_valid), g.names_used_file), g.parent_directory),
          );
      decides_zero =
          λ l u. (
            λ h.
                let p = simp (is_zero_link, and_iff, eqb_iff, same_iff) at h in
                let d = same-file l.parent root p.0.0 in
                let f = same-file l.file root p.0.1 in
                λ i. record { parent = d i; name = p.1 i; file = f i },
            λ e. ap is_zero_link e,
          );
    }

pub link_in : (ls : List Link) (l : LinkNo) → link_used (link_at ls l) ≡ true → l.0 < length ls
unfolding link_at link_used
link_in ls l u = used_below link_used zero_link refl ls l.0 u

name_test : (l m : Link) → (link_names_differ l m ≡ true) ↔ LinkNamesDiffer l m
unfolding link_names_differ
name_test l m = names_iff l.parent m.parent (units l.name) (units m.name)

link_names_iff : (ls : List Link) → (pairs link_names_differ (keep link_used ls) ≡ true) ↔ EveryTwo link_used zero_link LinkNamesDiffer ls
unfolding link_used
link_names_iff = two_iff link_used zero_link refl link_names_differ LinkNamesDiffer name_test

-- how many links a file should have
wanted_iff : (ls : List Link) (f : FileNo)
    → (count (link_to f) ls ≡ cond (eqb f.0 0) 0 1)
    ↔ ((f ≡ root → count (link_to f) ls ≡ 0) × (f ≢ root → count (link_to f) ls ≡ 1))
wanted_iff ls f = (
  λ e. (λ r. e ∙ cond_true 0 1 ((file_iff f root).1 r), λ r. e ∙ cond_false 0 1 ((fails_iff (file_iff f root)).1 r)),
  λ w.
      by_cases (eqb f.0 0) (λ e. w.0 ((file_iff f root).0 e) ∙ sym (cond_true 0 1 e))
      (λ e. w.1 ((fails_iff (file_iff f root)).0 e) ∙ sym (cond_false 0 1 e)),
)

-- a file's test, over all the links
abbrev FileLinks : List Link → FileNo → File → Type 0
FileLinks ls n f = (count (link_to n) ls ≡ cond (eqb n.0 0) 0 1) × (reaches ls file_slots n ≡ true)

file_links : (ls : List Link) (n : FileNo) (f : File)
    → (links_of_file (keep link_used ls) n.0 f ≡ true) ↔ (file_used f ≡ true → FileLinks ls n f)
unfolding links_of_file
file_links ls n f = (
  λ h. simp (links_of_file, guard_iff, and_iff, eqb_iff, links_kept, reaches-kept) at h,
  λ h. simp (links_of_file, guard_iff, and_iff, eqb_iff, links_kept, reaches-kept) h,
)

files_linked : (fs : List File) (ls : List Link)
    → (all_from (links_of_file (keep link_used ls)) 0 fs ≡ true)
    ↔ ((f : FileNo) → file_used (file_at fs f) ≡ true → FileLinks ls f (file_at fs f))
files_linked fs ls = files_each (links_of_file (keep link_used ls)) (FileLinks ls) (file_links ls) fs

module _ (fs : List File) (files : FilesConsistent fs) (ls : List Link) where
  -- the root is at most as many steps up as the table has slots
  root_reached : LinksConsistent fs ls → (f : FileNo) → file_used (file_at fs f) ≡ true → reaches ls file_slots f ≡ true
  root_reached c f u =
      let q = c.parents_lead_to_root f u in
      ap (λ (n : ℕ). reaches ls n f) (sym files.slots.size)
      ∙ few_steps fs ls c.others_have_one (λ i w. directory-file fs _ (c.slots.used_good i w).parent_directory) f u q.0 q.1

  pub links_iff : (links_test fs ls ≡ true) ↔ LinksConsistent fs ls
  unfolding links_test
  links_iff = (
    λ h.
        let p = simp (links_test, and_iff, slots_iff (link_decides fs), link_names_iff, files_linked) at h in
        record {
          slots = p.0.0;
          root_has_none = ((wanted_iff ls root).0 (p.1 root (directory-file fs root files.root_directory)).0).0 refl;
          others_have_one = λ f r u. ((wanted_iff ls f).0 (p.1 f u).0).1 r;
          parents_lead_to_root = λ f u. let q = reaches_climbs ls file_slots f (p.1 f u).1 in (q.0, q.2);
          names_differ = p.0.1;
        },
    λ c.
        simp (links_test, and_iff, slots_iff (link_decides fs), link_names_iff, files_linked) (
          (c.slots, c.names_differ),
          λ f u. (
            (wanted_iff ls f).1
                (λ r. ap (λ (g : FileNo). count (link_to g) ls) r ∙ c.root_has_none, λ r. c.others_have_one f r u),
            root_reached c f u,
          ),
        ),
  )
