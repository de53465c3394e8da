-- What evaluation unfolds: a proof that names `computes` computes with all of these.
use Rattle.consistency.specs.{Relations.{valid_masks, link_to, child_of, has_children, stream_of, unnamed_of, parent_of, climb, reaches}, Slots.slots_test, Good.{good_file, is_zero_file, good_link, is_zero_link, link_names_differ, good_stream, is_zero_stream, stream_names_differ, good_open, is_zero_open, handles_differ, opens_agree}, Test.{files_test, links_of_file, links_test, streams_of_file, streams_test, opens_test, same_counts, counts_test, conflicts_test, file_mark_test, stream_mark_test, marks_test, consistent}}

unfoldable pub computes : Unit {0}
unfolding valid_masks link_to child_of has_children stream_of unnamed_of parent_of climb reaches slots_test good_file is_zero_file good_link
    is_zero_link link_names_differ good_stream is_zero_stream stream_names_differ good_open is_zero_open handles_differ opens_agree
    files_test links_of_file links_test streams_of_file streams_test opens_test same_counts counts_test conflicts_test file_mark_test
    stream_mark_test marks_test consistent
computes = tt
