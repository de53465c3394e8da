-- What stands at a number or a row: past a table's end, the record of a free slot. And the opens that are live, on a file
-- or on a stream.
use Rattle.base.specs.Base.{ℕ, Bool, List, eqb, get_or, any, keep, zero_file, zero_link, zero_stream, zero_open, open_used, FileNo, LinkNo, StreamNo, File, Link, Stream, Open, OpenTable}

unfoldable pub file_at : List File → FileNo → File
file_at fs n = get_or fs n.0 zero_file

unfoldable pub link_at : List Link → LinkNo → Link
link_at ls n = get_or ls n.0 zero_link

unfoldable pub stream_at : List Stream → StreamNo → Stream
stream_at ss n = get_or ss n.0 zero_stream

unfoldable pub row_at : OpenTable → ℕ → Open
row_at t n = get_or t.rows n zero_open

-- the opens of the table that are live
unfoldable pub live : List Open → List Open
live os = keep open_used os

-- some open of a list, counted or not, is on the file; on the stream
unfoldable pub any_on_file : FileNo → List Open → Bool
any_on_file f os = any (λ o. eqb o.file.0 f.0) os

unfoldable pub any_on_stream : StreamNo → List Open → Bool
any_on_stream s os = any (λ o. eqb o.stream.0 s.0) os

-- some live one of the table
abbrev pub file_has_open : List Open → FileNo → Bool
file_has_open os f = any_on_file f (live os)

abbrev pub stream_has_open : List Open → StreamNo → Bool
stream_has_open os s = any_on_stream s (live os)
