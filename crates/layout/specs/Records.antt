-- Each record in bytes: its fields in order, with their widths.
use Rattle.base.specs.Base.{ℕ, Bool, List, accounts, file_name_limit, stream_name_limit, FileNo, StreamNo, Handle, FileType, File, Link, ShareCounts, Stream, Open}
use Rattle.codecs.specs.Codec.{Codec, number, cases, ◌⊗◌, via, row}
use Rattle.layout.specs.Kinds.{kinds, marks, kind_of, kind_number, mark_of, mark_number}

abbrev pub kind_codec : Codec FileType
kind_codec = cases kinds kind_of kind_number

abbrev pub mark_codec : Codec Bool
mark_codec = cases marks mark_of mark_number

abbrev pub file_no_codec : Codec FileNo
file_no_codec = via (λ n. record { 0 = n }) (λ f. f.0) (number 2)

abbrev pub stream_no_codec : Codec StreamNo
stream_no_codec = via (λ n. record { 0 = n }) (λ s. s.0) (number 2)

abbrev pub handle_codec : Codec Handle
handle_codec = via (λ n. record { 0 = n }) (λ h. h.0) (number 8)

-- kind, attributes, a mask for each account, the mark of one that goes with its last open
abbrev pub file_of : FileType × (ℕ × (List ℕ × Bool)) → File
file_of p =
    record { file_type = p.0; attributes = p.1.0; masks = p.1.1.0; delete_pending = p.1.1.1 }

abbrev pub file_fields : File → FileType × (ℕ × (List ℕ × Bool))
file_fields f = (f.file_type, (f.attributes, (f.masks, f.delete_pending)))

abbrev pub file_codec : Codec File
file_codec =
    via file_of file_fields
    (kind_codec ⊗ number 4 ⊗ row (number 4) accounts ⊗ mark_codec)

-- parent, file, name
abbrev pub link_of : FileNo × (FileNo × List ℕ) → Link
link_of p = record { parent = p.0; file = p.1.0; name = p.1.1 }

abbrev pub link_fields : Link → FileNo × (FileNo × List ℕ)
link_fields l = (l.parent, (l.file, l.name))

abbrev pub link_codec : Codec Link
link_codec =
    via link_of link_fields
    (file_no_codec ⊗ file_no_codec ⊗ row (number 2) file_name_limit)

-- the seven share counts
abbrev pub counts_of : ℕ × (ℕ × (ℕ × (ℕ × (ℕ × (ℕ × ℕ))))) → ShareCounts
counts_of p =
    record {
      opens = p.0;
      readers = p.1.0;
      writers = p.1.1.0;
      deleters = p.1.1.1.0;
      shared_read = p.1.1.1.1.0;
      shared_write = p.1.1.1.1.1.0;
      shared_delete = p.1.1.1.1.1.1;
    }

abbrev pub counts_fields : ShareCounts → ℕ × (ℕ × (ℕ × (ℕ × (ℕ × (ℕ × ℕ)))))
counts_fields c = (
  c.opens,
  (c.readers, (c.writers, (c.deleters, (c.shared_read, (c.shared_write, c.shared_delete))))),
)

abbrev pub counts_codec : Codec ShareCounts
counts_codec =
    via counts_of counts_fields
    (number 2 ⊗ number 2 ⊗ number 2 ⊗ number 2 ⊗ number 2 ⊗ number 2 ⊗ number 2)

-- kind, file, name, counts, the mark
abbrev pub stream_of : FileType × (FileNo × (List ℕ × (ShareCounts × Bool))) → Stream
stream_of p =
    record {
      stream_type = p.0;
      file = p.1.0;
      name = p.1.1.0;
      counts = p.1.1.1.0;
      delete_pending = p.1.1.1.1;
    }

abbrev pub stream_fields : Stream → FileType × (FileNo × (List ℕ × (ShareCounts × Bool)))
stream_fields s = (s.stream_type, (s.file, (s.name, (s.counts, s.delete_pending))))

abbrev pub stream_codec : Codec Stream
stream_codec =
    via stream_of stream_fields
    (kind_codec ⊗ file_no_codec ⊗ row (number 2) stream_name_limit ⊗ counts_codec ⊗ mark_codec)

-- handle, file, stream, granted access, sharing mode, delete on close
abbrev pub open_of : Handle × (FileNo × (StreamNo × (ℕ × (ℕ × Bool)))) → Open
open_of p =
    record {
      handle = p.0;
      file = p.1.0;
      stream = p.1.1.0;
      granted = p.1.1.1.0;
      share = p.1.1.1.1.0;
      delete_on_close = p.1.1.1.1.1;
    }

abbrev pub open_fields : Open → Handle × (FileNo × (StreamNo × (ℕ × (ℕ × Bool))))
open_fields o = (o.handle, (o.file, (o.stream, (o.granted, (o.share, o.delete_on_close)))))

abbrev pub open_codec : Codec Open
open_codec =
    via open_of open_fields
    (handle_codec ⊗ file_no_codec ⊗ stream_no_codec ⊗ number 4 ⊗ number 4 ⊗ mark_codec)
