-- Format gives consistent tables.
use Rattle.base.{specs.Base.{ℕ, ◌≡◌, Bool, true, ◌&&◌, List, within, has, all, all_from, count, keep, pairs, is_empty, same, padded, is_used, is_directory, file_used, link_used, open_used, bare, bare_used, bare_at, namespace}, proofs.Laws.{refl, ap, and_both}}
use Rattle.consistency.{specs.{Relations.{valid_masks, link_to, stream_of, unnamed_of, parent_of, reaches}, Slots.slots_test, Good.{good_file, is_zero_file, good_link, is_zero_link, good_stream, is_zero_stream, good_open, is_zero_open, link_names_differ, stream_names_differ, handles_differ, opens_agree}, Test.{files_test, links_of_file, links_test, streams_of_file, streams_test, opens_test, same_counts, counts_test, conflicts_test, file_mark_test, stream_mark_test, marks_test, consistent}, Consistent.Consistent}, proofs.Equivalence.consistent_iff}
use Rattle.names.specs.Names.{lowest_unit, valid_unit, valid_units, valid_file_name, valid_stream_name}
use Rattle.sharing.specs.Sharing.{on_stream, counts_of, counts_of_all}
use Rattle.stored_names.specs.StoredNames.{units, well_stored}
use Rattle.tables.specs.Tables.{file_at, live}
use Rattle.format.specs.Format.{root_file, fresh_volume, fresh_opens}

-- what the tests compute with
tests : Unit {0}
unfolding within has all all_from count keep pairs is_empty same padded is_used is_directory file_used link_used open_used file_at bare_at bare bare_used namespace units well_stored valid_stream_name valid_file_name valid_units valid_unit lowest_unit counts_of counts_of_all on_stream link_to stream_of unnamed_of live parent_of reaches slots_test good_file is_zero_file good_link is_zero_link good_stream is_zero_stream good_open is_zero_open files_test link_names_differ links_of_file links_test stream_names_differ streams_of_file streams_test handles_differ opens_test same_counts counts_test opens_agree conflicts_test file_mark_test stream_mark_test marks_test root_file fresh_volume
tests = tt

-- each table's test is computed, but for the root's masks
module _ (masks : List ℕ) (read_only : Bool) (valid : valid_masks masks ≡ true) where
  files_fresh : files_test (fresh_volume masks read_only).files ≡ true
  unfolding tests
  files_fresh = ap (λ (b : Bool). b && true) valid

  links_fresh : links_test (fresh_volume masks read_only).files (fresh_volume masks read_only).links ≡ true
  unfolding tests
  links_fresh = refl

  streams_fresh : streams_test (fresh_volume masks read_only).files (namespace (fresh_volume masks read_only)).streams ≡ true
  unfolding tests
  streams_fresh = refl

  opens_fresh : opens_test (namespace (fresh_volume masks read_only)).streams (fresh_volume masks read_only).next_handle.0 fresh_opens.rows ≡ true
  unfolding tests
  opens_fresh = refl

  counts-fresh : counts_test (fresh_volume masks read_only).streams fresh_opens.rows ≡ true
  unfolding tests
  counts-fresh = refl

  conflicts-fresh : conflicts_test fresh_opens.rows ≡ true
  unfolding tests
  conflicts-fresh = refl

  marks-fresh : marks_test (fresh_volume masks read_only).files (fresh_volume masks read_only).links (namespace (fresh_volume masks read_only)).streams fresh_opens.rows ≡ true
  unfolding tests
  marks-fresh = refl

  pub fresh-consistent : Consistent (fresh_volume masks read_only) fresh_opens
  unfolding consistent
  fresh-consistent =
      (consistent_iff (fresh_volume masks read_only) fresh_opens).0
      (and_both
      (and_both (and_both (and_both (and_both (and_both files_fresh links_fresh) streams_fresh) opens_fresh) counts-fresh) conflicts-fresh)
      marks-fresh)
