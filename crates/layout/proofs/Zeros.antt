-- Bytes that are all zero stand for the tables whose records are those of free slots.
use Rattle.base.{specs.Base.{ℕ, ◌≡◌, false, true, List, length, replicate, accounts, file_name_limit, stream_name_limit, file_slots, link_slots, stream_slots, open_slots, zero_file, zero_link, zero_counts, zero_stream, zero_open, Tables, root}, proofs.Laws.{subst, arith}}
use Rattle.codecs.proofs.Zeros.{Zeros, Zero, number_zero, cases_zero, both_zero, via_zero, row_zero}
use Rattle.layout.proofs.Tables.{stands_both, decode_fits}
use Rattle.layout.specs.{Kinds.{kinds, marks, kind_of, kind_number, mark_of, mark_number}, Records.{file_of, file_fields, link_of, link_fields, counts_of, counts_fields, stream_of, stream_fields, open_of, open_fields, kind_codec, mark_codec, file_no_codec, stream_no_codec, handle_codec, file_codec, link_codec, counts_codec, stream_codec, open_codec}, Layout.{joined, parts, tables_codec, tables_size, decode, stands_for_tables}, Fits.TablesFit}

abbrev pub zero_tables : Tables
zero_tables =
    record {
      volume =
          record {
            read_only = false;
            next_handle = record { 0 = 0 };
            files = replicate file_slots zero_file;
            links = replicate link_slots zero_link;
            streams = replicate stream_slots zero_stream;
          };
      opens = record { rows = replicate open_slots zero_open };
    }

kind_zero : Zero kind_codec (kind_of 0)
kind_zero = cases_zero kinds kind_of kind_number (omega arith)

mark_zero : Zero mark_codec (mark_of 0)
mark_zero = cases_zero marks mark_of mark_number (omega arith)

file_no_zero : Zero file_no_codec root
file_no_zero = via_zero (λ n. record { 0 = n }) _ (number_zero 2)

stream_no_zero : Zero stream_no_codec (record { 0 = 0 })
stream_no_zero = via_zero (λ n. record { 0 = n }) _ (number_zero 2)

handle_zero : Zero handle_codec (record { 0 = 0 })
handle_zero = via_zero (λ n. record { 0 = n }) _ (number_zero 8)

file_zero : Zero file_codec zero_file
unfolding kind_of mark_of
file_zero = via_zero file_of file_fields (both_zero kind_zero (both_zero (number_zero 4) (both_zero (row_zero (number_zero 4) accounts) mark_zero)))

link_zero : Zero link_codec zero_link
link_zero = via_zero link_of link_fields (both_zero file_no_zero (both_zero file_no_zero (row_zero (number_zero 2) file_name_limit)))

counts_zero : Zero counts_codec zero_counts
counts_zero =
    let two = number_zero 2 in
    via_zero counts_of counts_fields (both_zero two (both_zero two (both_zero two (both_zero two (both_zero two (both_zero two two))))))

stream_zero : Zero stream_codec zero_stream
unfolding kind_of mark_of
stream_zero =
    via_zero stream_of stream_fields
    (both_zero kind_zero (both_zero file_no_zero (both_zero (row_zero (number_zero 2) stream_name_limit) (both_zero counts_zero mark_zero))))

pub open_zero : Zero open_codec zero_open
unfolding mark_of
open_zero =
    via_zero open_of open_fields
    (both_zero handle_zero (both_zero file_no_zero (both_zero stream_no_zero (both_zero (number_zero 4) (both_zero (number_zero 4) mark_zero)))))

tables_zero : Zero tables_codec zero_tables
unfolding mark_of
tables_zero =
    via_zero joined parts
    (both_zero mark_zero
    (both_zero handle_zero
    (both_zero (row_zero file_zero file_slots)
    (both_zero (row_zero link_zero link_slots)
    (both_zero (row_zero stream_zero stream_slots) (row_zero open_zero open_slots))))))

module _ (bs : List ℕ) (zeros : Zeros bs) where
  pub zeros_tables : decode bs ≡ zero_tables
  unfolding decode
  zeros_tables = tables_zero.is bs zeros

  pub zeros_stand : length bs ≡ tables_size → stands_for_tables bs ≡ true
  zeros_stand long = stands_both bs long (tables_zero.stands bs zeros)

  pub zeros_fit : length bs ≡ tables_size → TablesFit zero_tables
  zeros_fit long = subst TablesFit zeros_tables (decode_fits bs (λ i. omega (arith, zeros i)) long)
