-- The one pass over the links: each from place i on passes its test, has its key, and is noted by its file's number. And
-- what the test of the whole table is at the end.
use Rattle.base.{specs.Base.{ℕ, ◌+◌, ◌-◌, ◌≤◌, ◌<◌, ◌≡◌, true, false, ◌&&◌, List, length, get_or, set, replicate, all, all_from, keep, pairs, file_slots, link_slots, link_used, zero_link, File, Link}, proofs.Laws.{refl, sym, ap, ◌∙◌, arith, eq-eqb, numbered_same, count_room, count_ends, Noted, Scanned, scan_none, scan_fails, scan_back, scan_end}}
use Rattle.consistency.specs.{Slots.slots_test, Good.link_names_differ, Test.{links_of_file, links_test}}
use Rattle.distinct.specs.Keys.{is_key, differ}
use Rattle.name_keys.proofs.Tell.{key_of, names_told}
use Rattle.audit_links.proofs.{Links.link_test, Linked.linked_same, Noted.{file_of, parent_in, LinksNoted, noted_none, noted_free, noted_used}}
use Rattle.audit_links.specs.Linked.{file_linked}

-- the key of a link's name in its directory
abbrev pub link_key : Link → ℕ
link_key = key_of link_used (λ l. l.parent.0) (λ l. l.name)

pub record Passed (fs : List File) (ls : List Link) (keys counts up : List ℕ) (i : ℕ) : Type 0 where
  pub size : length ls ≡ link_slots
  pub scanned : Scanned (link_test fs) link_key ls keys i
  pub noted : LinksNoted ls counts up i

pub pass_none : {fs : List File} {ls : List Link} {up : List ℕ} → length ls ≡ link_slots → length up ≡ file_slots
    → Noted 0 file_slots up (λ n. n) → Passed fs ls (replicate link_slots 0) (replicate file_slots 0) up link_slots
pass_none {fs} {ls} {up} size long own =
    record {
      size = size;
      scanned = scan_none (link_test fs) link_key ls (replicate link_slots 0) link_slots refl size;
      noted = noted_none ls up link_slots (omega arith) long own;
    }

module _ {fs : List File} {ls : List Link} {keys counts up : List ℕ} {i : ℕ} (passed : Passed fs ls keys counts up i) where
  -- the test of the table: of each link, of every two names, of each file
  links_test_lem : links_test fs ls
      ≡ (all (link_test fs) ls && pairs link_names_differ (keep link_used ls) && all_from (links_of_file (keep link_used ls)) 0 fs)
  unfolding links_test slots_test
  links_test_lem = rw (eq-eqb (length ls) link_slots passed.size)

  -- a count is at most the links passed
  pub count_fits : (n : ℕ) → n < file_slots → get_or counts n 0 ≤ link_slots
  count_fits n b = omega (arith, count_room _ file_slots ls passed.noted.counted n b, passed.size)

  -- the link before those passed
  module _ (positive : 0 < i) {l : Link} (is : l ≡ get_or ls (i - 1) zero_link) where
    pub pass_fails : link_test fs l ≡ false → links_test fs ls ≡ false
    pass_fails e =
        links_test_lem ∙ rw (scan_fails (link_test fs) link_key ls keys i zero_link positive passed.scanned (ap (link_test fs) (sym is) ∙ e))

    module _ (test : link_test fs l ≡ true) {k : ℕ} (key : k ≡ link_key l) where
      scanned_more : Scanned (link_test fs) link_key ls (set keys (i - 1) k) (i - 1)
      scanned_more =
          scan_back (link_test fs) link_key ls keys i zero_link positive passed.scanned (ap (link_test fs) (sym is) ∙ test) (key ∙ ap link_key is)

      pub pass_free : link_used l ≡ false → Passed fs ls (set keys (i - 1) k) counts up (i - 1)
      pass_free u =
          record {
            size = passed.size;
            scanned = scanned_more;
            noted = noted_free ls i positive passed.scanned.place counts up passed.noted (ap link_used (sym is) ∙ u);
          }

      pub pass_used : link_used l ≡ true → file_of l < file_slots
          → Passed fs ls (set keys (i - 1) k) (set counts (file_of l) (get_or counts (file_of l) 0 + 1)) (set up (file_of l) l.parent.0) (i - 1)
      pass_used u b =
          record {
            size = passed.size;
            scanned = scanned_more;
            noted =
                rw is
                (noted_used ls i positive passed.scanned.place counts up passed.noted (ap link_used (sym is) ∙ u) (rw (← is) b));
          }

  -- all are passed: what the names and the files say is what is asked
  module _ (end : i ≡ 0) where
    all_pass : all (link_test fs) ls ≡ true
    all_pass = (scan_end (link_test fs) link_key ls end passed.scanned).0

    pub pass_names : pairs differ (keep is_key keys) ≡ true → pairs link_names_differ (keep link_used ls) ≡ true
    unfolding link_names_differ
    pass_names h =
        names_told link_used (λ (l : Link). l.parent.0) (λ l. l.name) zero_link ls
        (rw (← (scan_end (link_test fs) link_key ls end passed.scanned).1) h)

    pub pass_alike : pairs link_names_differ (keep link_used ls) ≡ false → links_test fs ls ≡ false
    pass_alike h = links_test_lem ∙ rw (all_pass, h)

    pub pass_ends : length fs ≡ file_slots → pairs link_names_differ (keep link_used ls) ≡ true
        → links_test fs ls ≡ all_from (file_linked counts up) 0 fs
    pass_ends long h =
        let noted = passed.noted in
        links_test_lem
        ∙ rw (all_pass, h)
        (sym
        (numbered_same (file_linked counts up) (links_of_file (keep link_used ls)) 0 fs
        (λ n b.
        linked_same ls counts up noted.parents_size (λ m c. count_ends _ file_slots ls noted.counted m c end) (rw end at noted.parents)
        (λ m c. omega (arith, parent_in fs ls all_pass (record { 0 = m }) (omega arith))) n (omega arith))))
