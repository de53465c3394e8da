-- What the audit notes of each file in a pass over the links, from the last to the first, in tables by file numbers.
use Rattle.base.{specs.Base.{ℕ, ◌+◌, ◌-◌, ◌≤◌, ◌<◌, ◌≡◌, true, false, List, [], ◌∷◌, inl, length, get_or, set, drop, replicate, all, file_slots, link_used, zero_link, FileNo, File, Link}, proofs.Laws.{sym, ap, ◌∙◌, length-set, drop_of_length-le, by_cases, and_left, and_right, one, Noted, keyed, keyed_own, back_skip, back_set, Counted, count_begins, count_skips, count_adds}}
use Rattle.consistency.{specs.Relations.{link_to, parent_of}, proofs.{Relations.link_to_iff, Parents.{parent_here, parent_next}}}
use Rattle.audit_links.proofs.{Links.{link_test, parent_there}, Linked.above}

-- the number of the file that a link names
abbrev pub file_of : Link → ℕ
file_of l = l.file.0

-- a link that doesn't name the file says nothing of it
module _ (n : ℕ) (l : Link) (e : keyed file_of link_used n l ≡ false) where
  not_to : link_to (record { 0 = n }) l ≡ false
  unfolding link_to
  not_to = e

  parent_other : (ls : List Link) → above n (l ∷ ls) ≡ above n ls
  parent_other ls = ap (λ (f : FileNo). f.0) (parent_next (record { 0 = n }) l ls not_to)

-- a used one names its file, and says its parent
module _ (l : Link) (u : link_used l ≡ true) where
  own_to : link_to l.file l ≡ true
  unfolding link_to
  own_to = keyed_own file_of link_used l u

  parent_own : (ls : List Link) → above (file_of l) (l ∷ ls) ≡ l.parent.0
  parent_own ls = ap (λ (f : FileNo). f.0) (parent_here l.file l ls own_to)

-- where each link passes its test, a parent is no further than the files
pub parent_in : (fs : List File) (ls : List Link) → all (link_test fs) ls ≡ true → (f : FileNo) → f.0 < length fs → (parent_of ls f).0 < length fs
unfolding all parent_of
parent_in fs [] h f b = b
parent_in fs (l ∷ ls) h f b =
    let k = parent_in fs ls (and_right (link_test fs l) (all (link_test fs) ls) h) f b in
    by_cases (link_to f l)
    (λ e. rw (parent_here f l ls e) (parent_there fs l ((link_to_iff f l).0 e).0 (and_left (link_test fs l) (all (link_test fs) ls) h)))
    (λ e. rw (parent_next f l ls e) k)

-- the tables have what the links from place i on say
pub record LinksNoted (ls : List Link) (counts up : List ℕ) (i : ℕ) : Type 0 where
  pub counted : Counted (λ n. link_to (record { 0 = n })) file_slots ls counts i
  pub parents_size : length up ≡ file_slots
  pub parents : Noted 0 file_slots up (λ n. above n (drop i ls))

-- no link yet: each file is its own parent
pub noted_none : (ls : List Link) (up : List ℕ) (i : ℕ) → length ls ≤ i → length up ≡ file_slots → Noted 0 file_slots up (λ n. n)
    → LinksNoted ls (replicate file_slots 0) up i
unfolding parent_of
noted_none ls up i past size own =
    record {
      counted = count_begins (λ n. link_to (record { 0 = n })) file_slots ls i past;
      parents_size = size;
      parents = rw (drop_of_length-le ls past) own;
    }

-- one link more
module _ (ls : List Link) (i : ℕ) (positive : 0 < i) (inside : i ≤ length ls) (counts up : List ℕ)
    (noted : LinksNoted ls counts up i) where
  abbrev here : Link
  here = get_or ls (i - 1) zero_link

  pub noted_free : link_used here ≡ false → LinksNoted ls counts up (i - 1)
  noted_free u =
      record {
        counted = count_skips file_of link_used _ not_to ls zero_link positive inside noted.counted (inl u);
        parents_size = noted.parents_size;
        parents =
            back_skip file_of link_used above (λ n l ys e. parent_other n l e ys) ls i zero_link positive inside 0 file_slots up noted.parents (inl u);
      }

  pub noted_used : link_used here ≡ true → file_of here < file_slots
      → LinksNoted ls (set counts (file_of here) (get_or counts (file_of here) 0 + 1)) (set up (file_of here) here.parent.0) (i - 1)
  noted_used u b =
      record {
        counted = count_adds file_of link_used _ not_to ls zero_link positive inside noted.counted b 1 (sym (ap one (own_to here u)));
        parents_size = length-set up (file_of here) here.parent.0 ∙ noted.parents_size;
        parents =
            back_set file_of link_used above (λ n l ys e. parent_other n l e ys) ls i zero_link positive inside 0 file_slots up noted.parents
            noted.parents_size b here.parent.0 (sym (parent_own here u (drop i ls)));
      }
