-- Tables that the bytes can hold: tables of the right lengths, and numbers that fit their fields.
use Rattle.base.specs.Base.{accounts, file_name_limit, stream_name_limit, file_slots, link_slots, stream_slots, open_slots, Tables, File, Link, ShareCounts, Stream, Open}
use Rattle.codecs.specs.Codec.{Below, RowFits}

pub record FileFits (f : File) : Type 0 where
  pub attributes : Below 4 f.attributes
  pub masks : RowFits accounts (Below 4) f.masks

pub record LinkFits (l : Link) : Type 0 where
  pub parent : Below 2 l.parent.0
  pub file : Below 2 l.file.0
  pub name : RowFits file_name_limit (Below 2) l.name

pub record CountsFit (c : ShareCounts) : Type 0 where
  pub opens : Below 2 c.opens
  pub readers : Below 2 c.readers
  pub writers : Below 2 c.writers
  pub deleters : Below 2 c.deleters
  pub shared_read : Below 2 c.shared_read
  pub shared_write : Below 2 c.shared_write
  pub shared_delete : Below 2 c.shared_delete

pub record StreamFits (s : Stream) : Type 0 where
  pub file : Below 2 s.file.0
  pub name : RowFits stream_name_limit (Below 2) s.name
  pub counts : CountsFit s.counts

pub record OpenFits (o : Open) : Type 0 where
  pub handle : Below 8 o.handle.0
  pub file : Below 2 o.file.0
  pub stream : Below 2 o.stream.0
  pub granted : Below 4 o.granted
  pub share : Below 4 o.share

pub record TablesFit (t : Tables) : Type 0 where
  pub next : Below 8 t.volume.next_handle.0
  pub files : RowFits file_slots FileFits t.volume.files
  pub links : RowFits link_slots LinkFits t.volume.links
  pub streams : RowFits stream_slots StreamFits t.volume.streams
  pub opens : RowFits open_slots OpenFits t.opens.rows
