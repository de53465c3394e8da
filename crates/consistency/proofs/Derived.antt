-- What follows from consistency: used slots by their numbers; and a free stream is all zero, its counts
-- too, since no open names it.
use Rattle.base.{specs.Base.{ℕ, ◌≤◌, ◌<◌, ◌≡◌, true, false, List, map, length, any, zero_stream, zero_open, file_used, stream_used, open_used, BareStream, bare, bare_used, bare_at, namespace, FileNo, StreamNo, File, Stream, Open, OpenTable, Volume, zero_bare, stream_slots, get_or, is_used}, proofs.Laws.{◌∙◌, ap, arith, get_or_map, get_or_default, not_both, fails_iff, none_kept_of}}
use native.Mathlib.Decide.{dec_lt}
use Rattle.sharing.{specs.Sharing.on_stream, proofs.Counts.counts_none}
use Rattle.tables.specs.Tables.{file_at, stream_at, live}
use Rattle.consistency.proofs.{Numbered.stream_iff, Slots.slots_map}
use Rattle.consistency.specs.{Good.GoodFile, Consistent.{FilesConsistent, GoodStreamOf, StreamsConsistent, open_at, OpensConsistent, Consistent}, Slots.Slots}

-- used slots by their numbers
pub file_good : {fs : List File} → FilesConsistent fs → (f : FileNo) → file_used (file_at fs f) ≡ true → GoodFile (file_at fs f)
unfolding file_at
file_good c f u = c.slots.used_good f.0 u

pub stream_good : {fs : List File} {ss : List BareStream} → StreamsConsistent fs ss
    → (s : StreamNo) → bare_used (bare_at ss s) ≡ true → GoodStreamOf fs (bare_at ss s)
unfolding bare_at
stream_good c s u = c.slots.used_good s.0 u

-- a stream, without its counts, stands at its number among the streams without theirs
pub bare_at_lem : (ss : List Stream) (s : StreamNo) → bare_at (map bare ss) s ≡ bare (stream_at ss s)
unfolding bare_at stream_at bare
bare_at_lem ss s = get_or_map bare ss s.0 zero_stream

-- a free stream has no open, since a live open names a used stream
pub free_unopened : {ss : List BareStream} {next : ℕ} {os : List Open} → OpensConsistent ss next os → (s : StreamNo)
    → bare_used (bare_at ss s) ≡ false → any (on_stream s) (live os) ≡ false
unfolding live on_stream
free_unopened {ss} {next} {os} c s f =
    none_kept_of open_used (on_stream s) zero_open os
    (λ i u.
    (fails_iff (stream_iff (open_at os i).stream s)).1
    (λ e. not_both (c.slots.used_good i u).names_used_stream (ap (λ (n : StreamNo). bare_used (bare_at ss n)) e ∙ f)))

-- the slots of the streams, with their counts: a free one is all zero
pub stream_slots_lem : {v : Volume} {t : OpenTable} → Consistent v t
    → Slots stream_used zero_stream (λ s. GoodStreamOf v.files (bare s)) stream_slots v.streams
unfolding namespace bare bare_used bare_at stream_at stream_used is_used
stream_slots_lem {v} {t} c =
    slots_map bare zero_stream v.streams
    (λ i e. elim (dec_lt i (length v.streams)) [ yes b ↦ inside i b e | no n ↦ past i (omega arith) ]) c.streams.slots
  where
    inside : (i : ℕ) → i < length v.streams → bare (get_or v.streams i zero_stream) ≡ zero_bare
        → get_or v.streams i zero_stream ≡ zero_stream
    inside i b e =
        let s : StreamNo = record { 0 = i } in
        let free : bare_used (bare_at (map bare v.streams) s) ≡ false = ap bare_used (bare_at_lem v.streams s ∙ e) in
        let counts = c.counts s b ∙ counts_none s (live t.rows) (free_unopened c.opens s free) in
        λ j.
        record {
          file = (e j).file;
          stream_type = (e j).stream_type;
          name = (e j).name;
          counts = counts j;
          delete_pending = (e j).delete_pending;
        }

    past : (i : ℕ) → length v.streams ≤ i → get_or v.streams i zero_stream ≡ zero_stream
    past i b = get_or_default v.streams zero_stream {n = i} b
