-- How much the tables, names and paths hold (document 01, "Sizes").
use Rattle.std.specs.Prelude.{ℕ}

abbrev pub file_slots : ℕ
file_slots = 128

abbrev pub link_slots : ℕ
link_slots = 192

abbrev pub stream_slots : ℕ
stream_slots = 256

abbrev pub open_slots : ℕ
open_slots = 256

-- units of a file's name, and of a stream's
abbrev pub file_name_limit : ℕ
file_name_limit = 32

abbrev pub stream_name_limit : ℕ
stream_name_limit = 32

abbrev pub path_limit : ℕ
path_limit = 255

abbrev pub accounts : ℕ
accounts = 8

-- the last value of the next handle, at which no open is accepted any more
abbrev pub last_handle : ℕ
last_handle = 18446744073709551615
