-- Where the used links and streams of consistent tables belong: to files that there are, and not to the root where it can't be.
use Rattle.base.{specs.Base.{ℕ, zero, suc, ◌≡◌, true, false, not, ◌&&◌, List, [], ◌∷◌, ◌≢◌, eqb, ltb, get_or, any, count, is_empty, root, file_slots, zero_link, zero_bare, is_used, is_directory, file_used, link_used, BareStream, bare_used, FileNo, File, Link}, proofs.Laws.{refl, sym, ◌∙◌, ap, ap₂, arith, by_cases, not_both, not_is, and_right, and_both, cond_cases, fails_iff, any_fails, count_yes, count_no, count_fewer}}
use borrow.Author.Tests.{lt-ltb}
use Rattle.lists.proofs.Places.{used_below}
use Rattle.stored_names.specs.StoredNames.{units}
use Rattle.tables.specs.Tables.{file_at}
use Rattle.consistency.{specs.{Relations.{type_at, link_to, stream_of, unnamed_of, parent_of, climb}, Consistent.{FilesConsistent, LinksConsistent, StreamsConsistent}}, proofs.{Numbered.{file_iff, file_in, directory-file}, Parents.{parent_here, parent_next}, Relations.{link_to_iff, stream_of_iff, unnamed_iff}}}
use Rattle.image.specs.Alone.{link_placed, stream_placed}
use Rattle.image_laws.proofs.SavedSlots.{none_counted}

-- a used file's number
number_below : {fs : List File} → FilesConsistent fs → (f : FileNo) → file_used (file_at fs f) ≡ true → ltb f.0 file_slots ≡ true
number_below {fs} c f u = lt-ltb f.0 file_slots (rw c.slots.size at (file_in fs f u))

-- the parent of a file with one link is that link's
one_parent : (ls : List Link) (f : FileNo) (k : ℕ) → count (link_to f) ls ≡ 1 → link_to f (get_or ls k zero_link) ≡ true
    → parent_of ls f ≡ (get_or ls k zero_link).parent
unfolding count link_to link_used
one_parent [] f k n h = absurd (let z : ⊥ = omega arith in z)
one_parent (l ∷ ls) f zero n h = parent_here f l ls h
one_parent (l ∷ ls) f (suc k) n h =
    by_cases (link_to f l)
    (λ e. absurd (none_counted (link_to f) zero_link refl ls (omega (arith, count_yes (link_to f) l ls e)) k h))
    (λ e. parent_next f l ls e ∙ one_parent ls f k (sym (count_no (link_to f) l ls e) ∙ n) h)

-- a file that is its own parent leads nowhere
climb_own : (ls : List Link) (f : FileNo) → parent_of ls f ≡ f → (n : ℕ) → climb ls n f ≡ f
unfolding climb
climb_own ls f e zero = refl
climb_own ls f e (suc n) = ap (climb ls n) e ∙ climb_own ls f e n

module _ {fs : List File} {ls : List Link} (files : FilesConsistent fs) (links : LinksConsistent fs ls) (k : ℕ)
    (used : link_used (get_or ls k zero_link) ≡ true) where
  file_used_lem : file_used (file_at fs (get_or ls k zero_link).file) ≡ true
  unfolding file_used
  file_used_lem = (links.slots.used_good k used).names_used_file

  not_root_lem : (get_or ls k zero_link).file ≢ root
  unfolding link_to link_used
  not_root_lem e =
      none_counted (link_to root) zero_link refl ls links.root_has_none k ((link_to_iff root (get_or ls k zero_link)).1 (used, e))

  not_own : (get_or ls k zero_link).file ≢ (get_or ls k zero_link).parent
  not_own e =
      let l = get_or ls k zero_link in
      let up = one_parent ls l.file k (links.others_have_one l.file not_root_lem file_used_lem) ((link_to_iff l.file l).1 (used, refl)) in
      let q = links.parents_lead_to_root l.file file_used_lem in
      not_root_lem (sym (climb_own ls l.file (up ∙ sym e) q.0) ∙ q.1)

  pub link_placed_lem : link_placed (get_or ls k zero_link) ≡ true
  unfolding link_placed
  link_placed_lem =
      let l = get_or ls k zero_link in
      and_both
      (and_both
      (and_both (number_below files l.file file_used_lem)
      (number_below files l.parent (directory-file fs l.parent (links.slots.used_good k used).parent_directory)))
      (not_is ((fails_iff (file_iff l.file root)).1 not_root_lem)))
      (not_is ((fails_iff (file_iff l.file l.parent)).1 not_own))

-- where one stream of a file has no name, and it has one stream, each of its streams is that one
one_unnamed_lem : (ss : List BareStream) (f : FileNo) → count (unnamed_of f) ss ≡ 1 → count (stream_of f) ss ≡ 1
    → (k : ℕ) → stream_of f (get_or ss k zero_bare) ≡ true → unnamed_of f (get_or ss k zero_bare) ≡ true
unfolding stream_of bare_used is_used
one_unnamed_lem ss f u n k h =
    let s = get_or ss k zero_bare in
    let none : any (λ s. stream_of f s && not (unnamed_of f s)) ss ≡ false =
    sym (count_fewer (stream_of f) (unnamed_of f) (λ s e. ((unnamed_iff f s).0 e).0) ss) ∙ ap₂ ltb u n in
    by_cases (unnamed_of f s) (λ e. e)
    (λ e.
    absurd
    (not_both (and_both h (not_is e))
    (any_fails (λ s. stream_of f s && not (unnamed_of f s)) zero_bare ss none k (used_below (stream_of f) zero_bare refl ss k h))))

module _ {fs : List File} {ss : List BareStream} (files : FilesConsistent fs) (streams : StreamsConsistent fs ss) (k : ℕ)
    (used : bare_used (get_or ss k zero_bare) ≡ true) where
  stream-file : file_used (file_at fs (get_or ss k zero_bare).file) ≡ true
  unfolding file_used
  stream-file = (streams.slots.used_good k used).names_used_file

  its_type : is_directory (get_or ss k zero_bare).stream_type ≡ is_directory (type_at fs (get_or ss k zero_bare).file)
  its_type = ap is_directory (streams.slots.used_good k used).type_agrees

  directory_unnamed_lem : is_directory (get_or ss k zero_bare).stream_type ≡ true → is_empty (units (get_or ss k zero_bare).name) ≡ true
  unfolding unnamed_of
  directory_unnamed_lem d =
      let s = get_or ss k zero_bare in
      and_right (stream_of s.file s) _
      (one_unnamed_lem ss s.file (streams.one_unnamed s.file stream-file)
      (streams.directories_have_one s.file (sym its_type ∙ d)) k ((stream_of_iff s.file s).1 (used, refl)))

  data_elsewhere : is_directory (get_or ss k zero_bare).stream_type ≡ false → (get_or ss k zero_bare).file ≢ root
  data_elsewhere d e =
      not_both (its_type ∙ ap (λ (f : FileNo). is_directory (type_at fs f)) e ∙ files.root_directory) d

  pub stream_placed_lem : stream_placed (get_or ss k zero_bare) ≡ true
  unfolding stream_placed
  stream_placed_lem =
      let s = get_or ss k zero_bare in
      and_both (number_below files s.file stream-file)
      (cond_cases (λ b. b ≡ true) (is_directory s.stream_type) (is_empty (units s.name)) (not (eqb s.file.0 0)) directory_unnamed_lem
      (λ d. not_is ((fails_iff (file_iff s.file root)).1 (data_elsewhere d))))
