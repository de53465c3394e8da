-- The opens counted in one pass: the counts of every stream, by its number, of the rows from a place on.
use Rattle.base.{specs.Base.{ℕ, ◌-◌, ◌≤◌, ◌<◌, ◌≡◌, Bool, true, false, ◌⊎◌, List, ◌∷◌, length, get_or, set, drop, replicate, all_from, count, keep, stream_slots, open_slots, open_used, zero_counts, zero_open, Open, ShareCounts, StreamNo, Stream}, proofs.Laws.{refl, sym, ◌∙◌, ap, arith, length-set, length-drop, drop_of_length-le, get_or-replicate, eq-eqb, by_cases, numbered_same, count_bound, keep_yes, keep_no, length-keep, Noted, keyed, back_set, back_skip}}
use Rattle.consistency.specs.Test.{same_counts, counts_test}
use Rattle.sharing.{specs.{Sharing.{on_stream, counts_of, counts_of_all}, Saturating.{count_limit, with_open_up_to}}, proofs.{Counts.{counts_cons, counts_skip}, UpTo.up_to_counts}}
use Rattle.tables.specs.Tables.{live}

-- the stream with a number, that of an open, and what rows say of it: the counts of its live opens
abbrev stream : ℕ → StreamNo
stream n = record { 0 = n }

abbrev pub stream_no : Open → ℕ
stream_no o = o.stream.0

abbrev pub counts_on : ℕ → List Open → ShareCounts
counts_on n rows = counts_of (stream n) (live rows)

-- from the end on there is none
pub none_counted : (size : ℕ) (rows : List Open) (i : ℕ) → length rows ≤ i
    → Noted zero_counts size (replicate size zero_counts) (λ n. counts_on n (drop i rows))
unfolding live keep counts_of counts_of_all count
none_counted size rows i h n b =
    get_or-replicate size n zero_counts zero_counts b ∙ sym (ap (counts_on n) (drop_of_length-le rows h))

-- a used row is one open more of the stream that it names
pub counts_own : (limit : ℕ) (o : Open) (os : List Open) → open_used o ≡ true → length os < limit
    → counts_on (stream_no o) (o ∷ os) ≡ with_open_up_to limit o (counts_on (stream_no o) os)
unfolding live on_stream
counts_own limit o os u h =
    ap (counts_of o.stream) (keep_yes open_used o os u)
    ∙ counts_cons o.stream o (keep open_used os) (eq-eqb (stream_no o) (stream_no o) refl)
    ∙ sym (up_to_counts limit (length os) h o o.stream (keep open_used os)
    (omega (arith, length-keep open_used os, count_bound open_used os)))

-- and of no other
pub counts_other : (n : ℕ) (o : Open) (os : List Open) → keyed stream_no open_used n o ≡ false
    → counts_on n (o ∷ os) ≡ counts_on n os
unfolding live on_stream
counts_other n o os e =
    by_cases (open_used o)
    (λ u. ap (counts_of (stream n)) (keep_yes open_used o os u) ∙ counts_skip (stream n) o (keep open_used os) (rw u at e))
    (λ u. ap (counts_of (stream n)) (keep_no open_used o os u))

-- the pass over the rows from the last one: the counts are those of the rows passed
pub record CountsPass (rows : List Open) (counts : List ShareCounts) (i : ℕ) : Type 0 where
  pub place : i ≤ open_slots
  pub size : length counts ≡ stream_slots
  pub counted : Noted zero_counts stream_slots counts (λ n. counts_on n (drop i rows))

module _ (rows : List Open) (long : length rows ≡ open_slots) where
  pub counting_begins : CountsPass rows (replicate stream_slots zero_counts) open_slots
  counting_begins =
      record { place = omega arith; size = refl; counted = none_counted stream_slots rows open_slots (omega arith) }

  -- one row more, as it was read: it is counted on its stream, or there is nothing to count
  module _ {counts : List ShareCounts} (i : ℕ) (positive : 0 < i) (pass : CountsPass rows counts i)
      {o : Open} (read : o ≡ get_or rows (i - 1) zero_open) where
    pub counting_counts : open_used o ≡ true → stream_no o < stream_slots → {after : ShareCounts}
        → after ≡ with_open_up_to count_limit o (get_or counts (stream_no o) zero_counts)
        → CountsPass rows (set counts (stream_no o) after) (i - 1)
    counting_counts used below {after} e =
        record {
          place = omega (arith, pass.place);
          size = length-set counts (stream_no o) after ∙ pass.size;
          counted =
              rw read
              (back_set stream_no open_used counts_on counts_other rows i zero_open positive (omega (arith, pass.place)) zero_counts
              stream_slots counts pass.counted pass.size (rw read at below) after
              (rw read at
              (e
              ∙ ap (with_open_up_to count_limit o) (pass.counted (stream_no o) below)
              ∙ sym (counts_own count_limit o (drop i rows) used (omega (arith, length-drop i rows))))));
        }

    pub counting_skips : (open_used o ≡ false) ⊎ (stream_slots ≤ stream_no o) → CountsPass rows counts (i - 1)
    counting_skips w =
        record {
          place = omega (arith, pass.place);
          size = pass.size;
          counted =
              back_skip stream_no open_used counts_on counts_other rows i zero_open positive (omega (arith, pass.place)) zero_counts
              stream_slots counts pass.counted (rw read at w);
        }

  pub counting_ends : {counts : List ShareCounts} {i : ℕ} → i ≡ 0 → CountsPass rows counts i
      → (n : ℕ) → n < stream_slots → get_or counts n zero_counts ≡ counts_on n rows
  counting_ends end pass n b = pass.counted n b ∙ ap (λ (m : ℕ). counts_on n (drop m rows)) end

-- a stream's counts against those found
abbrev pub found_test : List ShareCounts → ℕ → Stream → Bool
found_test cs n s = same_counts s.counts (get_or cs n zero_counts)

pub counts_found : (ss : List Stream) (os : List Open) (size : ℕ) (cs : List ShareCounts) → length ss ≡ size
    → ((n : ℕ) → n < size → get_or cs n zero_counts ≡ counts_of (stream n) (live os)) → counts_test ss os ≡ all_from (found_test cs) 0 ss
unfolding counts_test
counts_found ss os size cs l h =
    numbered_same (λ n s. same_counts s.counts (counts_of (stream n) (live os))) (found_test cs) 0 ss
    (λ n b s. ap (same_counts s.counts) (sym (h n (omega arith))))
