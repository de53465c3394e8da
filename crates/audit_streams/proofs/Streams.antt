-- The streams that bytes stand for, as the code reads them, and a slot against a stream.
use Rattle.base.{specs.Base.{ℕ, ◌≡◌, true, false, not, ◌&&◌, List, eqb, length, get_or, all, keep, same, is_used, is_directory, stream_slots, BareStream, bare_used, bare_at, bare, namespace, FileType, FileNo, Stream, StreamNo}, proofs.Laws.{sym, ◌∙◌, ap, length-map, eq-eqb, ne_eqb, or_right, all_keep}}
use mathlib.Core.Bool.{beq}
use Rattle.layout.{specs.Layout.decode, proofs.Lengths.streams_count}
use Rattle.tables.specs.Tables.{stream_at}
use Rattle.stored_names.{specs.StoredNames.units, proofs.StoredUnits.units_empty}
use Rattle.name_tests.specs.NameTests.{good_stream_name}
use Rattle.consistency.{specs.Good.{good_stream, stream_names_differ}, proofs.Derived.bare_at_lem}
use Rattle.audit_streams.specs.Streams.{free_or_differs}

-- the streams, without their counts
module _ (bs : List ℕ) where
  abbrev pub streams : List BareStream
  streams = (namespace (decode bs).volume).streams

  pub streams_long : length streams ≡ stream_slots
  unfolding namespace
  streams_long = length-map (decode bs).volume.streams bare ∙ streams_count bs

  -- a stream that was read
  pub stream_read : (n : StreamNo) {s : Stream} → s ≡ stream_at (decode bs).volume.streams n → bare s ≡ bare_at streams n
  unfolding namespace
  stream_read n e = ap bare e ∙ sym (bare_at_lem (decode bs).volume.streams n)

  pub file_read : (n : StreamNo) {f : FileNo} → f ≡ (stream_at (decode bs).volume.streams n).file → f.0 ≡ (bare_at streams n).file.0
  unfolding namespace bare
  file_read n e = ap (λ (f : FileNo). f.0) (e ∙ sym (ap (λ (q : BareStream). q.file) (bare_at_lem (decode bs).volume.streams n)))

-- a used one: its name, its file, its type and its mark
pub stream-parts : (of : FileType) (s : BareStream)
    → good_stream of s
    ≡ (good_stream_name s.name
    && is_used of
    && beq (is_directory s.stream_type) (is_directory of)
    && not (s.delete_pending && eqb (get_or s.name 0 0) 0))
unfolding good_stream good_stream_name
stream-parts of s = rw (good_stream, units_empty s.name)

-- a slot against a stream
module _ (s q : BareStream) where
  pub other_file : (q.file.0 ≡ s.file.0 → ⊥) → free_or_differs s q ≡ true
  unfolding free_or_differs stream_names_differ
  other_file n = or_right (not (bare_used q)) (rw (ne_eqb s.file.0 q.file.0 (λ e. n (sym e))))

  pub free_differs : bare_used q ≡ false → free_or_differs s q ≡ true
  unfolding free_or_differs
  free_differs u = rw u

  pub same-file : q.file.0 ≡ s.file.0 → bare_used q ≡ true → free_or_differs s q ≡ not (same (units s.name) (units q.name))
  unfolding free_or_differs stream_names_differ
  same-file e u = rw (free_or_differs, u, stream_names_differ, eq-eqb s.file.0 q.file.0 (sym e))

pub slots_differ : (s : BareStream) (qs : List BareStream) → all (stream_names_differ s) (keep bare_used qs) ≡ all (free_or_differs s) qs
unfolding free_or_differs
slots_differ s qs = all_keep bare_used (stream_names_differ s) qs
