-- What a line of the script promises on lent bytes: what it prints, and the bytes after it.
use Rattle.std.specs.Prelude.{◌≡◌}
use Rattle.base.specs.Base.{ℕ, true, List, Step}
use Rattle.call_contracts.specs.Performs.{StandFor}
use Rattle.layout.specs.{Layout.{decode, stands_for_tables}, Calls.on_bytes}
use Rattle.script_lines.specs.{Script.answered, Found.Prints, declared.buffers.Printed.Printed}
use Rattle.store.specs.Calls.{Call, store_step}

-- the lent bytes as a machine that answers calls
abbrev pub bytes_step : List ℕ → Call → Step (List ℕ)
bytes_step bs c = on_bytes (λ t. store_step t c) bs

-- whatever the bytes and the line: the text and every byte; and of bytes that stand for tables, what they stand for
-- afterwards
pub record AnswersLine (line : List ℕ) (x : Printed) (before after : List ℕ) : Type 0 where
  pub text : Prints x (answered bytes_step before line).bytes
  pub state : after ≡ (answered bytes_step before line).state
  pub tables : stands_for_tables before ≡ true → StandFor after (answered store_step (decode before) line).state
