-- Consistency as a test that computes. proofs/ shows that it answers true exactly when the tables are Consistent.
use Rattle.std.specs.Prelude.{◌&&◌, ◌||◌}
use Rattle.base.specs.Base.{ℕ, Bool, cond, not, List, eqb, leb, all_from, count, keep, pairs, file_slots, link_slots, stream_slots, open_slots, root, is_directory, file_used, link_used, open_used, BareStream, bare_used, bare_at, namespace, FileNo, File, Link, ShareCounts, Stream, Open, OpenTable, Volume}
use Rattle.sharing.specs.Sharing.{counts_of}
use Rattle.tables.specs.Tables.{live, file_has_open, stream_has_open}
use Rattle.consistency.specs.{Relations.{type_at, link_to, has_children, stream_of, unnamed_of, reaches}, Slots.slots_test, Good.{good_file, is_zero_file, good_link, is_zero_link, link_names_differ, good_stream, is_zero_stream, stream_names_differ, good_open, is_zero_open, handles_differ, opens_agree}}

-- files

unfoldable pub files_test : List File → Bool
files_test fs = is_directory (type_at fs root) && slots_test file_used good_file is_zero_file file_slots fs

-- links

abbrev pub good_link_of : List File → Link → Bool
good_link_of fs l = good_link (type_at fs l.file) (type_at fs l.parent) l

-- a file's links: none for the root, one for every other used file, and the root above it
unfoldable pub links_of_file : List Link → ℕ → File → Bool
links_of_file ls n f =
    let number : FileNo = record { 0 = n } in
    not (file_used f)
    || (eqb (count (link_to number) ls) (cond (eqb n 0) 0 1) && reaches ls file_slots number)

unfoldable pub links_test : List File → List Link → Bool
links_test fs ls =
    slots_test link_used (good_link_of fs) is_zero_link link_slots ls
    && pairs link_names_differ (keep link_used ls)
    && all_from (links_of_file (keep link_used ls)) 0 fs

-- streams

abbrev pub good_stream_of : List File → BareStream → Bool
good_stream_of fs s = good_stream (type_at fs s.file) s

-- a file's streams: one with the empty name, and no other in a directory
unfoldable pub streams_of_file : List BareStream → ℕ → File → Bool
streams_of_file ss n f =
    let number : FileNo = record { 0 = n } in
    not (file_used f)
    || (eqb (count (unnamed_of number) ss) 1
    && (not (is_directory f.file_type) || eqb (count (stream_of number) ss) 1))

unfoldable pub streams_test : List File → List BareStream → Bool
streams_test fs ss =
    slots_test bare_used (good_stream_of fs) is_zero_stream stream_slots ss
    && pairs stream_names_differ (keep bare_used ss)
    && all_from (streams_of_file (keep bare_used ss)) 0 fs

-- opens

abbrev pub good_open_of : List BareStream → ℕ → Open → Bool
good_open_of ss next o = good_open (bare_at ss o.stream) next o

unfoldable pub opens_test : List BareStream → ℕ → List Open → Bool
opens_test ss next os =
    leb 1 next
    && slots_test open_used (good_open_of ss next) is_zero_open open_slots os
    && pairs handles_differ (live os)

-- counts

unfoldable pub same_counts : ShareCounts → ShareCounts → Bool
same_counts c d =
    eqb c.opens d.opens
    && eqb c.readers d.readers
    && eqb c.writers d.writers
    && eqb c.deleters d.deleters
    && eqb c.shared_read d.shared_read
    && eqb c.shared_write d.shared_write
    && eqb c.shared_delete d.shared_delete

unfoldable pub counts_test : List Stream → List Open → Bool
counts_test ss os = all_from (λ n s. same_counts s.counts (counts_of (record { 0 = n }) (live os))) 0 ss

-- conflicts

unfoldable pub conflicts_test : List Open → Bool
conflicts_test os = pairs opens_agree (live os)

-- marks

unfoldable pub file_mark_test : List Link → List Open → ℕ → File → Bool
file_mark_test ls os n f =
    let number : FileNo = record { 0 = n } in
    not f.delete_pending || (not (eqb n 0) && not (has_children ls number) && file_has_open os number)

unfoldable pub stream_mark_test : List Open → ℕ → BareStream → Bool
stream_mark_test os n s = not s.delete_pending || stream_has_open os (record { 0 = n })

unfoldable pub marks_test : List File → List Link → List BareStream → List Open → Bool
marks_test fs ls ss os = all_from (file_mark_test ls os) 0 fs && all_from (stream_mark_test os) 0 ss

-- all of it
unfoldable pub consistent : Volume → OpenTable → Bool
consistent v t =
    files_test v.files
    && links_test v.files v.links
    && streams_test v.files (namespace v).streams
    && opens_test (namespace v).streams v.next_handle.0 t.rows
    && counts_test v.streams t.rows
    && conflicts_test t.rows
    && marks_test v.files v.links (namespace v).streams t.rows
