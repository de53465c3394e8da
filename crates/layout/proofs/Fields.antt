-- Where each record and field of the tables stands.
use Rattle.base.{specs.Base.{ℕ, ◌+◌, ◌*◌, ◌<◌, ◌≡◌, get_or, set, accounts, file_name_limit, stream_name_limit, file_slots, link_slots, stream_slots, open_slots, zero_file, zero_link, zero_stream, zero_open}, proofs.Laws.{refl, arith}}
use Rattle.codecs.{specs.{Codec.{number, ◌⊗◌, row}, Field.Field}, proofs.Fields.{whole, first, rest, slot, through, inner, moved}}
use Rattle.layout.specs.{Records.{kind_codec, file_no_codec, stream_no_codec, counts_codec, file_of, file_fields, link_of, link_fields, stream_of, stream_fields, open_of, open_fields, mark_codec, handle_codec, file_codec, link_codec, stream_codec, open_codec}, Layout.{tables_codec, parts, joined, files_codec, links_codec, streams_codec, opens_codec, file_size, link_size, stream_size, open_size, next_at, files_at, links_at, streams_at, opens_at, file_mark_in, stream_mark_in, counts_in}, Puts.{put_mark, put_next, put_file, put_link, put_stream, put_open, recounted, put_counts}}

pub mark_field : Field tables_codec mark_codec 0 (λ t. t.volume.read_only) put_mark
mark_field =
    through joined parts (λ a. refl)
    (first (handle_codec ⊗ files_codec ⊗ links_codec ⊗ streams_codec ⊗ opens_codec) (whole mark_codec))

pub next_field : Field tables_codec handle_codec next_at (λ t. t.volume.next_handle) put_next
next_field =
    through joined parts (λ a. refl)
    (rest mark_codec (first (files_codec ⊗ links_codec ⊗ streams_codec ⊗ opens_codec) (whole handle_codec)))

module _ (k : ℕ) where
  pub file-field : k < file_slots
      → Field tables_codec file_codec (files_at + file_size * k) (λ t. get_or t.volume.files k zero_file) (λ t f. put_file t (record { 0 = k }) f)
  file-field h =
      let at : 2 + (8 + file_size * k) ≡ files_at + file_size * k = omega arith in
      moved at
      (through joined parts (λ a. refl)
      (rest mark_codec
      (rest handle_codec (first (links_codec ⊗ streams_codec ⊗ opens_codec) (slot file_codec zero_file file_slots k h)))))

  pub link_field : k < link_slots
      → Field tables_codec link_codec (links_at + link_size * k) (λ t. get_or t.volume.links k zero_link) (λ t l. put_link t (record { 0 = k }) l)
  link_field h =
      let at : 2 + (8 + (files_codec.size + link_size * k)) ≡ links_at + link_size * k = omega arith in
      moved at
      (through joined parts (λ a. refl)
      (rest mark_codec
      (rest handle_codec (rest files_codec (first (streams_codec ⊗ opens_codec) (slot link_codec zero_link link_slots k h))))))

  pub stream-field : k < stream_slots
      → Field tables_codec stream_codec (streams_at + stream_size * k) (λ t. get_or t.volume.streams k zero_stream) (λ t s. put_stream t (record { 0 = k }) s)
  stream-field h =
      let at : 2 + (8 + (files_codec.size + (links_codec.size + stream_size * k))) ≡ streams_at + stream_size * k = omega arith in
      moved at
      (through joined parts (λ a. refl)
      (rest mark_codec
      (rest handle_codec
      (rest files_codec (rest links_codec (first opens_codec (slot stream_codec zero_stream stream_slots k h)))))))

  pub open_field : k < open_slots
      → Field tables_codec open_codec (opens_at + open_size * k) (λ t. get_or t.opens.rows k zero_open) (λ t o. put_open t k o)
  open_field h =
      let at : 2 + (8 + (files_codec.size + (links_codec.size + (streams_codec.size + open_size * k)))) ≡ opens_at + open_size * k =
      omega arith in
      moved at
      (through joined parts (λ a. refl)
      (rest mark_codec
      (rest handle_codec
      (rest files_codec (rest links_codec (rest streams_codec (slot open_codec zero_open open_slots k h)))))))

-- fields of the records
pub file_type_in : Field file_codec kind_codec 0 (λ f. f.file_type) (λ f t. file_of (t, (f.attributes, (f.masks, f.delete_pending))))
file_type_in =
    through file_of file_fields (λ a. refl) (first (number 4 ⊗ row (number 4) accounts ⊗ mark_codec) (whole kind_codec))

pub file_mark_in_lem : Field file_codec mark_codec file_mark_in (λ f. f.delete_pending) (λ f m. file_of (f.file_type, (f.attributes, (f.masks, m))))
file_mark_in_lem =
    through file_of file_fields (λ a. refl)
    (rest kind_codec (rest (number 4) (rest (row (number 4) accounts) (whole mark_codec))))

pub parent_in : Field link_codec file_no_codec 0 (λ l. l.parent) (λ l p. link_of (p, (l.file, l.name)))
parent_in =
    through link_of link_fields (λ a. refl) (first (file_no_codec ⊗ row (number 2) file_name_limit) (whole file_no_codec))

pub link_file_in : Field link_codec file_no_codec 2 (λ l. l.file) (λ l f. link_of (l.parent, (f, l.name)))
link_file_in =
    through link_of link_fields (λ a. refl)
    (rest file_no_codec (first (row (number 2) file_name_limit) (whole file_no_codec)))

pub link_unit_in : Field link_codec (number 2) 4 (λ l. get_or l.name 0 0) (λ l u. link_of (l.parent, (l.file, set l.name 0 u)))
link_unit_in =
    through link_of link_fields (λ a. refl)
    (rest file_no_codec (rest file_no_codec (slot (number 2) 0 file_name_limit 0 (omega arith))))

pub stream_type_in : Field stream_codec kind_codec 0 (λ s. s.stream_type) (λ s t. stream_of (t, (s.file, (s.name, (s.counts, s.delete_pending)))))
stream_type_in =
    through stream_of stream_fields (λ a. refl)
    (first (file_no_codec ⊗ row (number 2) stream_name_limit ⊗ counts_codec ⊗ mark_codec) (whole kind_codec))

pub stream_file_in : Field stream_codec file_no_codec 2 (λ s. s.file) (λ s f. stream_of (s.stream_type, (f, (s.name, (s.counts, s.delete_pending)))))
stream_file_in =
    through stream_of stream_fields (λ a. refl)
    (rest kind_codec (first (row (number 2) stream_name_limit ⊗ counts_codec ⊗ mark_codec) (whole file_no_codec)))

pub stream_mark_in_lem : Field stream_codec mark_codec stream_mark_in (λ s. s.delete_pending) (λ s m. stream_of (s.stream_type, (s.file, (s.name, (s.counts, m)))))
stream_mark_in_lem =
    through stream_of stream_fields (λ a. refl)
    (rest kind_codec
    (rest file_no_codec (rest (row (number 2) stream_name_limit) (rest counts_codec (whole mark_codec)))))

pub counts_in_lem : Field stream_codec counts_codec counts_in (λ s. s.counts) recounted
counts_in_lem =
    through stream_of stream_fields (λ a. refl)
    (rest kind_codec (rest file_no_codec (rest (row (number 2) stream_name_limit) (first mark_codec (whole counts_codec)))))

pub handle_in : Field open_codec handle_codec 0 (λ o. o.handle) (λ o h. open_of (h, (o.file, (o.stream, (o.granted, (o.share, o.delete_on_close))))))
handle_in =
    through open_of open_fields (λ a. refl)
    (first (file_no_codec ⊗ stream_no_codec ⊗ number 4 ⊗ number 4 ⊗ mark_codec) (whole handle_codec))

pub open_file_in : Field open_codec file_no_codec 8 (λ o. o.file) (λ o f. open_of (o.handle, (f, (o.stream, (o.granted, (o.share, o.delete_on_close))))))
open_file_in =
    through open_of open_fields (λ a. refl)
    (rest handle_codec (first (stream_no_codec ⊗ number 4 ⊗ number 4 ⊗ mark_codec) (whole file_no_codec)))

pub open_stream_in : Field open_codec stream_no_codec 10 (λ o. o.stream) (λ o s. open_of (o.handle, (o.file, (s, (o.granted, (o.share, o.delete_on_close))))))
open_stream_in =
    through open_of open_fields (λ a. refl)
    (rest handle_codec (rest file_no_codec (first (number 4 ⊗ number 4 ⊗ mark_codec) (whole stream_no_codec))))

pub counts-field : (k : ℕ) → k < stream_slots
    → Field tables_codec counts_codec (streams_at + stream_size * k + counts_in)
    (λ t. (get_or t.volume.streams k zero_stream).counts)
    (λ t c. put_counts t (record { 0 = k }) c)
counts-field k h = inner (stream-field k h) counts_in_lem
