-- A call on the tables, made on the bytes that are lent for them.
use Rattle.base.specs.Base.{ℕ, not, List, passed, refuse_if, ◌>>◌, concluded, Tables, Step, FileCorruptError}
use Rattle.layout.specs.Layout.{encode, decode, stands_for_tables}

-- the bytes of what a step leaves
abbrev pub in_bytes : Step Tables → Step (List ℕ)
in_bytes s = record { reply = s.reply; state = encode s.state }

-- a call on lent bytes: those that stand for no tables are FILE_CORRUPT_ERROR; else what the tables that they stand for
-- become, in bytes
unfoldable pub on_bytes : (Tables → Step Tables) → List ℕ → Step (List ℕ)
on_bytes call bs =
    concluded bs do
      refuse_if (not (stands_for_tables bs)) FileCorruptError
      passed (in_bytes (call (decode bs)))
