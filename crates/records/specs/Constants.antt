-- The numbers of [MS-FSA], [MS-SMB2] and [MS-FSCC] that document 01 names.
use Rattle.std.specs.Prelude.{ℕ}

-- dispositions
abbrev pub supersede : ℕ
supersede = 0

abbrev pub open_only : ℕ
open_only = 1

abbrev pub create : ℕ
create = 2

abbrev pub open_if : ℕ
open_if = 3

abbrev pub overwrite : ℕ
overwrite = 4

abbrev pub overwrite_if : ℕ
overwrite_if = 5

-- options
abbrev pub directory_file : ℕ
directory_file = 0x1

abbrev pub non_directory_file : ℕ
non_directory_file = 0x40

abbrev pub delete_on_close : ℕ
delete_on_close = 0x1000

abbrev pub disallow_exclusive : ℕ
disallow_exclusive = 0x20000

-- attributes
abbrev pub read_only : ℕ
read_only = 0x1

abbrev pub hidden : ℕ
hidden = 0x2

abbrev pub system : ℕ
system = 0x4

abbrev pub directory : ℕ
directory = 0x10

abbrev pub archive : ℕ
archive = 0x20

abbrev pub temporary : ℕ
temporary = 0x100

abbrev pub not_content_indexed : ℕ
not_content_indexed = 0x2000

-- all that a file may have
abbrev pub file_attributes : ℕ
file_attributes = 0x3137

-- access
abbrev pub write_data : ℕ
write_data = 0x2

abbrev pub append_data : ℕ
append_data = 0x4

abbrev pub add_file : ℕ
add_file = 0x2

abbrev pub add_subdirectory : ℕ
add_subdirectory = 0x4

abbrev pub delete : ℕ
delete = 0x10000

abbrev pub all_access : ℕ
all_access = 0x1F01FF

-- FILE_GENERIC_WRITE
abbrev pub file_generic_write : ℕ
file_generic_write = 0x120116

abbrev pub maximum_allowed : ℕ
maximum_allowed = 0x02000000

-- sharing modes
abbrev pub share_read : ℕ
share_read = 1

abbrev pub share_all : ℕ
share_all = 7
