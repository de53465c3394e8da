-- The tables as an image keeps them fit the bytes, and the bytes of their opens are zero.
use Rattle.base.{specs.Base.{ℕ, ◌+◌, ◌-◌, ◌≡◌, List, [], ◌∷◌, ◌++◌, map, length, drop, replicate, file_slots, link_slots, stream_slots, open_slots, zero_open, bare, with_counts, Tables}, proofs.Laws.{sym, ◌∙◌, ap, arith, length-map, length-replicate}}
use lib.Seq.{drop-drop, drop_at}
use Rattle.codecs.{specs.Codec.{Codec, Each, RowFits, Lawful}, proofs.{Laws.row_lawful, Zeros.{Zero, replicate_zeros, row_zero}}}
use Rattle.little_endian.specs.LittleEndian.{Bytes}
use Rattle.layout.{specs.{Records.{mark_codec, handle_codec}, Layout.{tables_size, files_codec, links_codec, streams_codec, opens_codec, next_at, files_at, links_at, streams_at, opens_at, encode, decode}, Fits.{FileFits, StreamFits, TablesFit}}, proofs.{Records.{mark_lawful, handle_lawful, file_lawful, link_lawful, stream_lawful, open_lawful}, Tables.decode_fits, Zeros.{open_zero, zeros_fit}}}
use Rattle.image.specs.Blocks.{unmarked_file, unmarked_bare, unopened_stream, without_opens}

-- a row whose values are all changed alike fits where each does
each_map : {A B : Type 0} (F : A → Type 0) (G : B → Type 0) (f : A → B) → ((x : A) → F x → G (f x)) → (xs : List A) → Each F xs → Each G (map f xs)
unfolding Each
each_map F G f h [] e = tt
each_map F G f h (x ∷ xs) e = (h x e.0, each_map F G f h xs e.1)

map_fits : {A B : Type 0} (F : A → Type 0) (G : B → Type 0) (f : A → B) → ((x : A) → F x → G (f x)) → {n : ℕ} {xs : List A}
    → RowFits n F xs → RowFits n G (map f xs)
map_fits F G f h {n} {xs} r = record { count = length-map xs f ∙ r.count; each = each_map F G f h xs r.each }

-- the value that zeros stand for has zeros as its bytes
zero_bytes : {A : Type 0} {c : Codec A} {F : A → Type 0} {z : A} → Lawful c F → Zero c z → c.encode z ≡ replicate {A = ℕ} c.size 0
zero_bytes {c = c} C Z =
    let bs = replicate {A = ℕ} c.size 0 in
    let zeros = replicate_zeros c.size in
    sym (ap c.encode (Z.is bs zeros))
    ∙ C.forth bs (λ i. omega (arith, zeros i)) (length-replicate {A = ℕ} c.size 0) (Z.stands bs zeros)

opens_bytes : opens_codec.encode (replicate open_slots zero_open) ≡ replicate opens_codec.size 0
opens_bytes = zero_bytes (row_lawful open_lawful open_slots) (row_zero open_zero open_slots)

module _ (bs : List ℕ) (bytes : Bytes bs) (long : length bs ≡ tables_size) where
  pub saved_fits : TablesFit (without_opens (decode bs))
  unfolding without_opens unmarked_file unopened_stream unmarked_bare with_counts bare Each
  saved_fits =
      let fit = decode_fits bs bytes long in
      let none = zeros_fit (replicate (length bs) 0) (replicate_zeros (length bs)) (length-replicate {A = ℕ} (length bs) 0 ∙ long) in
      let counts = none.streams.each.0.counts in
      record {
        next = fit.next;
        files = map_fits FileFits FileFits unmarked_file (λ f h. record { attributes = h.attributes; masks = h.masks }) fit.files;
        links = fit.links;
        streams =
            map_fits StreamFits StreamFits unopened_stream
            (λ s h. record { file = h.file; name = h.name; counts = counts }) fit.streams;
        opens = none.opens;
      }

-- what stands behind one part more
behind : (l xs ys : List ℕ) (at n : ℕ) → length xs ≡ n → drop at l ≡ xs ++ ys → drop (at + n) l ≡ ys
behind l xs ys at n long e = sym (drop-drop n at l) ∙ ap (drop n) e ∙ drop_at xs ys n long

opens_behind : (t : Tables) → TablesFit t → drop opens_at (encode t) ≡ opens_codec.encode t.opens.rows
unfolding encode
opens_behind t h =
    let v = t.volume in
    let l = encode t in
    behind l (streams_codec.encode v.streams) _ streams_at streams_codec.size
    ((row_lawful stream_lawful stream_slots).long v.streams h.streams)
    (behind l (links_codec.encode v.links) _ links_at links_codec.size
    ((row_lawful link_lawful link_slots).long v.links h.links)
    (behind l (files_codec.encode v.files) _ files_at files_codec.size
    ((row_lawful file_lawful file_slots).long v.files h.files)
    (behind l (handle_codec.encode v.next_handle) _ next_at handle_codec.size
    (handle_lawful.long v.next_handle h.next)
    (drop_at (mark_codec.encode v.read_only) _ next_at (mark_lawful.long v.read_only tt)))))

pub no_opens_behind : (t : Tables) → TablesFit (without_opens t) → drop opens_at (encode (without_opens t)) ≡ replicate (tables_size - opens_at) 0
unfolding without_opens
no_opens_behind t h = opens_behind (without_opens t) h ∙ opens_bytes
