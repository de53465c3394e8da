-- Format's writes, one after the other: cleared bytes become those of fresh tables.
use Rattle.base.{specs.Base.{ℕ, ◌≡◌, true, Bool, List, length, replicate, root, Tables, Handle, StreamNo}, proofs.Laws.{sym, ◌∙◌, ap, length-replicate}}
use Rattle.codecs.proofs.Zeros.{Zeros, replicate_zeros}
use Rattle.layout.{specs.{Layout.{tables_size, encode, decode, stands_for_tables, Changed}, Puts.{put_mark, put_next, put_file, put_stream}}, proofs.{Tables.encode-decode, Zeros.{zeros_tables, zeros_stand}}}
use Rattle.little_endian.specs.LittleEndian.{Bytes}
use Rattle.format.specs.{Format.{root_file, root_stream, fresh_volume, fresh_tables}, Bytes.StandFor}

abbrev first_handle : Handle
first_handle = record { 0 = 1 }

abbrev first_stream : StreamNo
first_stream = record { 0 = 0 }

-- the bytes b are cleared, and each write leaves the next
module _ (masks : List ℕ) (read_only : Bool) (b l m n o p : List ℕ) (long : length b ≡ tables_size)
    (cleared : l ≡ replicate (length b) 0)
    (mark : Changed l m (put_mark (decode l) read_only))
    (next : Changed m n (put_next (decode m) first_handle))
    (file : Changed n o (put_file (decode n) root (root_file masks)))
    (stream : Changed o p (put_stream (decode o) first_stream root_stream)) where
  zeros : Zeros l
  zeros = rw cleared (replicate_zeros (length b))

  written_tables : decode p ≡ fresh_tables masks read_only
  unfolding fresh_tables fresh_volume
  written_tables =
      stream.is
      ∙ ap (λ (t : Tables). put_stream t first_stream root_stream)
      (file.is
      ∙ ap (λ (t : Tables). put_file t root (root_file masks))
      (next.is
      ∙ ap (λ (t : Tables). put_next t first_handle) (mark.is ∙ ap (λ (t : Tables). put_mark t read_only) (zeros_tables l zeros))))

  written_stands : stands_for_tables p ≡ true
  written_stands =
      let size : length l ≡ tables_size = rw cleared (length-replicate {A = ℕ} (length b) 0 ∙ long) in
      stream.stays (file.stays (next.stays (mark.stays (zeros_stand l zeros size))))

  pub written : StandFor p (fresh_tables masks read_only)
  written = record { is = written_tables; stands = written_stands }

pub encoded : {bs : List ℕ} {t : Tables} → Bytes bs → StandFor bs t → bs ≡ encode t
encoded {bs} bytes s = sym (encode-decode bs bytes s.stands) ∙ ap encode s.is
