-- What a call on lent bytes promises: the definition's answer, and its tables in bytes.
use Rattle.std.specs.Prelude.{◌≡◌}
use Rattle.base.specs.Base.{ℕ, true, List, Tables, Step, Answers, Answer}
use Rattle.layout.specs.{Layout.{decode, stands_for_tables}, Calls.on_bytes}

-- bytes that stand for these tables
pub record StandFor (bs : List ℕ) (t : Tables) : Type 0 where
  pub stands : stands_for_tables bs ≡ true
  pub is : decode bs ≡ t

-- whatever the bytes: the reply and every byte; and of bytes that stand for tables, what they stand for afterwards
pub record Performs (a : Answer) (before after : List ℕ) (call : Tables → Step Tables) : Type 0 where
  pub answers : Answers a after (on_bytes call before)
  pub tables : stands_for_tables before ≡ true → StandFor after (call (decode before)).state
