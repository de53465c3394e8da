-- The streams table: the test answers true exactly when the statements hold.
use Rattle.base.{specs.Base.{◌<◌, ◌≡◌, true, false, not, ◌&&◌, List, ◌↔◌, length, is_empty, all_from, count, keep, pairs, same, root, is_used, is_directory, file_used, BareStream, zero_bare, bare_used, bare_at, FileNo, StreamNo, File}, proofs.Laws.{refl, ap, and_iff, not_iff, eqb_iff, beq_iff, exclude_iff, guard_iff, same_iff, count-keep}}
use Rattle.lists.proofs.Places.{used_below}
use Rattle.stored_names.specs.StoredNames.{units}
use Rattle.tables.specs.Tables.{file_at}
use Rattle.consistency.proofs.{Slots.{Decides, slots_iff, two_iff}, Relations.{stream_of_iff, unnamed_iff}, Numbered.{same-file, unused, same_type, names_iff, directory-file, files_each}}
use Rattle.consistency.specs.{Relations.{type_at, stream_of, unnamed_of}, Slots.EveryTwo, Good.{good_stream, is_zero_stream, stream_names_differ, StreamNamesDiffer}, Consistent.{GoodStreamOf, StreamsConsistent}, Test.{good_stream_of, streams_of_file, streams_test}}

-- a marked stream is a named one
named_iff : (s : BareStream)
    → (not (s.delete_pending && is_empty (units s.name)) ≡ true) ↔ (s.delete_pending ≡ true → is_empty (units s.name) ≡ false)
named_iff s = exclude_iff (λ h. h, λ h. h) (λ h. h, λ h. h)

pub stream_decides : (fs : List File) → Decides bare_used (good_stream_of fs) is_zero_stream zero_bare (GoodStreamOf fs)
unfolding bare_used is_used good_stream is_zero_stream same
stream_decides fs =
    record {
      zero_free = refl;
      decides_good =
          λ s u. (
            λ h.
                let p = simp (good_stream, and_iff, beq_iff) at h in
                record {
                  name_stored = p.0.0.0.0;
                  name_valid = p.0.0.0.1;
                  names_used_file = p.0.0.1;
                  type_agrees = same_type s.stream_type (type_at fs s.file) u p.0.0.1 p.0.1;
                  marked_named = (named_iff s).0 p.1;
                },
            λ g.
                simp (good_stream, and_iff, beq_iff)
                ((((g.name_stored, g.name_valid), g.names_used_file), ap is_directory g.type_agrees), (named_iff s).1 g.marked_named),
          );
      decides_zero =
          λ s u. (
            λ h.
                let t = unused s.stream_type u in
                let p = simp (is_zero_stream, and_iff, not_iff, eqb_iff, same_iff) at h in
                let f = same-file s.file root p.0.0 in
                λ i. record { file = f i; stream_type = t i; name = p.0.1 i; delete_pending = p.1 i },
            λ e. ap is_zero_stream e,
          );
    }

pub stream_in : (ss : List BareStream) (s : StreamNo) → bare_used (bare_at ss s) ≡ true → s.0 < length ss
unfolding bare_at bare_used is_used
stream_in ss s u = used_below bare_used zero_bare refl ss s.0 u

name_test : (s t : BareStream) → (stream_names_differ s t ≡ true) ↔ StreamNamesDiffer s t
unfolding stream_names_differ
name_test s t = names_iff s.file t.file (units s.name) (units t.name)

stream_names_iff : (ss : List BareStream) → (pairs stream_names_differ (keep bare_used ss) ≡ true) ↔ EveryTwo bare_used zero_bare StreamNamesDiffer ss
unfolding bare_used is_used
stream_names_iff = two_iff bare_used zero_bare refl stream_names_differ StreamNamesDiffer name_test

-- the streams of a file are counted among the used slots as among all
pub streams_kept : (f : FileNo) (ss : List BareStream) → count (stream_of f) (keep bare_used ss) ≡ count (stream_of f) ss
streams_kept f ss = count-keep bare_used (stream_of f) (λ s h. ((stream_of_iff f s).0 h).0) ss

pub unnamed_kept : (f : FileNo) (ss : List BareStream) → count (unnamed_of f) (keep bare_used ss) ≡ count (unnamed_of f) ss
unnamed_kept f ss = count-keep bare_used (unnamed_of f) (λ s h. ((stream_of_iff f s).0 ((unnamed_iff f s).0 h).0).0) ss

-- a file's test, over all the streams
abbrev FileStreams : List BareStream → FileNo → File → Type 0
FileStreams ss n f = (count (unnamed_of n) ss ≡ 1) × (is_directory f.file_type ≡ true → count (stream_of n) ss ≡ 1)

file_streams : (ss : List BareStream) (n : FileNo) (f : File)
    → (streams_of_file (keep bare_used ss) n.0 f ≡ true) ↔ (file_used f ≡ true → FileStreams ss n f)
unfolding streams_of_file
file_streams ss n f = (
  λ h. simp (streams_of_file, guard_iff, and_iff, eqb_iff, unnamed_kept, streams_kept) at h,
  λ h. simp (streams_of_file, guard_iff, and_iff, eqb_iff, unnamed_kept, streams_kept) h,
)

files_streamed : (fs : List File) (ss : List BareStream)
    → (all_from (streams_of_file (keep bare_used ss)) 0 fs ≡ true)
    ↔ ((f : FileNo) → file_used (file_at fs f) ≡ true → FileStreams ss f (file_at fs f))
files_streamed fs ss = files_each (streams_of_file (keep bare_used ss)) (FileStreams ss) (file_streams ss) fs

pub streams_iff : (fs : List File) (ss : List BareStream) → (streams_test fs ss ≡ true) ↔ StreamsConsistent fs ss
unfolding streams_test
streams_iff fs ss = (
  λ h.
      let p = simp (streams_test, and_iff, slots_iff (stream_decides fs), stream_names_iff, files_streamed) at h in
      record {
        slots = p.0.0;
        one_unnamed = λ f u. (p.1 f u).0;
        directories_have_one = λ f d. (p.1 f (directory-file fs f d)).1 d;
        names_differ = p.0.1;
      },
  λ c.
      simp (streams_test, and_iff, slots_iff (stream_decides fs), stream_names_iff, files_streamed)
      ((c.slots, c.names_differ), λ f u. (c.one_unnamed f u, c.directories_have_one f)),
)
