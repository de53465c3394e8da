-- The pass over the streams from the last to the first: what holds once those from place i on were passed. Each of them
-- passes the test, its key is kept, and of each file they are counted, all and those without a name.
use Rattle.base.{specs.Base.{ℕ, ◌+◌, ◌-◌, ◌≤◌, ◌<◌, ◌≡◌, Bool, true, false, ◌&&◌, List, ◌⊎◌, length, get_or, set, replicate, all, all_from, is_empty, keep, pairs, file_slots, stream_slots, stream_name_limit, file_used, BareStream, zero_bare, bare_used, FileNo, File}, proofs.Laws.{sym, ◌∙◌, ap, arith, eq-eqb, by_cases, one, numbered_same, Scanned, scan_none, scan_fails, scan_back, scan_end, Counted, count_begins, count_room, count_ends, keyed, keyed_own, count_skips, count_adds}}
use Rattle.stored_names.specs.StoredNames.{units, well_stored}
use Rattle.distinct.specs.Keys.{is_key, differ}
use Rattle.name_keys.proofs.Tell.{key_of, names_told}
use Rattle.consistency.{specs.{Relations.{stream_of, unnamed_of}, Slots.{slot_test, slots_test}, Good.{is_zero_stream, stream_names_differ}, Test.{good_stream_of, streams_of_file, streams_test}}, proofs.{Slots.slot_good, Streams.{stream_decides, streams_kept, unnamed_kept}}}
use Rattle.audit_streams.specs.Streams.{has_streams, have_streams}

-- a slot, used or free
abbrev pub stream_test : List File → BareStream → Bool
stream_test fs = slot_test bare_used (good_stream_of fs) is_zero_stream

-- the number of a stream's file, and the key of a slot
abbrev pub file_of : BareStream → ℕ
file_of s = s.file.0

abbrev pub stream_key : BareStream → ℕ
stream_key = key_of bare_used file_of (λ s. s.name)

-- a used one that passes has a well stored name
pub name_stored_lem : (fs : List File) (s : BareStream) → bare_used s ≡ true → stream_test fs s ≡ true → well_stored stream_name_limit s.name ≡ true
name_stored_lem fs s u h = (slot_good (stream_decides fs) s u h).name_stored

-- the streams of the file with a number, and those without a name
abbrev of_file : ℕ → BareStream → Bool
of_file n = stream_of (record { 0 = n })

abbrev unnamed_in : ℕ → BareStream → Bool
unnamed_in n = unnamed_of (record { 0 = n })

pub record Passed (fs : List File) (ss : List BareStream) (keys every unnamed : List ℕ) (i : ℕ) : Type 0 where
  pub long : length ss ≡ stream_slots
  pub below : i ≤ stream_slots
  pub scanned : Scanned (stream_test fs) stream_key ss keys i
  pub every_counted : Counted of_file file_slots ss every i
  pub unnamed_counted : Counted unnamed_in file_slots ss unnamed i

-- a stream that isn't used, or is another file's, isn't counted; a used one is counted for its own
module _ (n : ℕ) (s : BareStream) (e : keyed file_of bare_used n s ≡ false) where
  not_of_file : of_file n s ≡ false
  unfolding stream_of
  not_of_file = e

  not_unnamed_in : unnamed_in n s ≡ false
  unfolding unnamed_of
  not_unnamed_in = rw not_of_file

module _ (s : BareStream) (u : bare_used s ≡ true) where
  own_file : of_file (file_of s) s ≡ true
  unfolding stream_of
  own_file = keyed_own file_of bare_used s u

  own_unnamed : unnamed_in (file_of s) s ≡ is_empty (units s.name)
  unfolding unnamed_of
  own_unnamed = ap (λ (b : Bool). b && is_empty (units s.name)) own_file

-- the test by its parts
parts : (fs : List File) (ss : List BareStream) → length ss ≡ stream_slots → streams_test fs ss
    ≡ (all (stream_test fs) ss && pairs stream_names_differ (keep bare_used ss) && all_from (streams_of_file (keep bare_used ss)) 0 fs)
unfolding streams_test slots_test
parts fs ss long = rw (streams_test, eq-eqb (length ss) stream_slots long)

pub pass_begins : (fs : List File) (ss : List BareStream) (keys : List ℕ) → length ss ≡ stream_slots → length keys ≡ stream_slots
    → Passed fs ss keys (replicate file_slots 0) (replicate file_slots 0) stream_slots
pass_begins fs ss keys long e =
    record {
      long = long;
      below = omega arith;
      scanned = scan_none (stream_test fs) stream_key ss keys stream_slots e long;
      every_counted = count_begins of_file file_slots ss stream_slots (omega arith);
      unnamed_counted = count_begins unnamed_in file_slots ss stream_slots (omega arith);
    }

module _ {fs : List File} {ss : List BareStream} {keys every unnamed : List ℕ} {i : ℕ} (passed : Passed fs ss keys every unnamed i) where
  -- a count has room for one more
  pub every_room : (n : ℕ) → n < file_slots → get_or every n 0 ≤ stream_slots
  every_room n b = omega (arith, passed.long, count_room of_file file_slots ss passed.every_counted n b)

  pub unnamed_room : (n : ℕ) → n < file_slots → (e : Bool) → get_or unnamed n 0 + one e ≤ stream_slots + 1
  unnamed_room n b e =
      let room = count_room unnamed_in file_slots ss passed.unnamed_counted n b in
      by_cases e (λ t. rw t (omega (arith, passed.long))) (λ f. rw f (omega (arith, passed.long)))

  -- one stream more
  module _ (positive : 0 < i) (s : BareStream) (here : s ≡ get_or ss (i - 1) zero_bare) where
    pub pass_fails : stream_test fs s ≡ false → streams_test fs ss ≡ false
    pass_fails e =
        parts fs ss passed.long
        ∙ rw (scan_fails (stream_test fs) stream_key ss keys i zero_bare positive passed.scanned (ap (stream_test fs) (sym here) ∙ e))

    module _ (good : stream_test fs s ≡ true) {k : ℕ} (key : k ≡ stream_key s) where
      scans : Scanned (stream_test fs) stream_key ss (set keys (i - 1) k) (i - 1)
      scans =
          scan_back (stream_test fs) stream_key ss keys i zero_bare positive passed.scanned (ap (stream_test fs) (sym here) ∙ good)
          (key ∙ ap stream_key here)

      pub pass_skips : (bare_used s ≡ false) ⊎ (file_slots ≤ file_of s) → Passed fs ss (set keys (i - 1) k) every unnamed (i - 1)
      pass_skips w =
          let w = rw here at w in
          let inside = passed.scanned.place in
          record {
            long = passed.long;
            below = omega (arith, passed.below);
            scanned = scans;
            every_counted = count_skips file_of bare_used of_file not_of_file ss zero_bare positive inside passed.every_counted w;
            unnamed_counted = count_skips file_of bare_used unnamed_in not_unnamed_in ss zero_bare positive inside passed.unnamed_counted w;
          }

      pub pass_adds : bare_used s ≡ true → file_of s < file_slots → {more : ℕ} → more ≡ one (is_empty (units s.name))
          → Passed fs ss (set keys (i - 1) k) (set every (file_of s) (get_or every (file_of s) 0 + 1))
          (set unnamed (file_of s) (get_or unnamed (file_of s) 0 + more)) (i - 1)
      pass_adds u b {more} e =
          let inside = passed.scanned.place in
          record {
            long = passed.long;
            below = omega (arith, passed.below);
            scanned = scans;
            every_counted =
                rw here
                (count_adds file_of bare_used of_file not_of_file ss zero_bare positive inside passed.every_counted (rw here at b) 1
                (sym (ap one (own_file _ (rw here at u)))));
            unnamed_counted =
                rw here
                (count_adds file_of bare_used unnamed_in not_unnamed_in ss zero_bare positive inside passed.unnamed_counted (rw here at b) more
                (rw here at (e ∙ sym (ap one (own_unnamed s u)))));
          }

  -- all were passed
  module _ (none : i ≡ 0) where
    -- distinct keys settle the names
    pub names_settled : pairs differ (keep is_key keys) ≡ true → pairs stream_names_differ (keep bare_used ss) ≡ true
    unfolding stream_names_differ
    names_settled h =
        names_told bare_used file_of (λ s. s.name) zero_bare ss
        (ap (λ (ks : List ℕ). pairs differ (keep is_key ks)) (sym (scan_end (stream_test fs) stream_key ss none passed.scanned).1) ∙ h)

    pub names_fail : pairs stream_names_differ (keep bare_used ss) ≡ false → streams_test fs ss ≡ false
    names_fail e = parts fs ss passed.long ∙ rw ((scan_end (stream_test fs) stream_key ss none passed.scanned).0, e)

    -- and the counts say the rest
    counts_say : length fs ≡ file_slots → all_from (streams_of_file (keep bare_used ss)) 0 fs ≡ all_from (have_streams every unnamed) 0 fs
    unfolding streams_of_file has_streams file_used
    counts_say l =
        numbered_same (streams_of_file (keep bare_used ss)) (have_streams every unnamed) 0 fs
        (λ n b f.
        let file : FileNo = record { 0 = n } in
        rw (
          streams_of_file,
          streams_kept file ss,
          unnamed_kept file ss,
          ← count_ends of_file file_slots ss passed.every_counted n (omega arith) none,
          ← count_ends unnamed_in file_slots ss passed.unnamed_counted n (omega arith) none,
        ))

    pub pass_ends : length fs ≡ file_slots → pairs stream_names_differ (keep bare_used ss) ≡ true
        → {r : Bool} → r ≡ all_from (have_streams every unnamed) 0 fs → r ≡ streams_test fs ss
    pass_ends l e f =
        f
        ∙ sym
        (parts fs ss passed.long ∙ rw ((scan_end (stream_test fs) stream_key ss none passed.scanned).0, e) (counts_say l))
