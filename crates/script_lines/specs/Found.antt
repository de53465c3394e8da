-- What the code's values stand for on a line. A place is a number of bytes from the line's start.
use Rattle.std.specs.Prelude.{◌≤◌, ◌≡◌}
use Rattle.std.specs.Prelude as code
use Rattle.base.specs.Base.{ℕ, List, Option, none, some, length, take, drop}
use Rattle.store.specs.Calls.{Call, opens, closes}
use Rattle.script_lines.specs.{Lines.{Field, line_limit}, declared.{AskedLine.AskedLine, buffers.{PathUnits.PathUnits, Printed.Printed}}}
use Rattle.script_lines.specs.declared.AskedLine.TheVariants as A

abbrev pub field_at : List ℕ → ℕ → ℕ → Field
field_at line value place = record { value = value; rest = drop place line }

-- a number and the place after it, which the code finds on a line
unfoldable pub as_number : List ℕ → code.Option (ℕ × ℕ) → Option Field
as_number line code.None = none
as_number line (code.Some (value, place)) = some (field_at line value place)

unfoldable pub as_call : List ℕ → code.Option AskedLine → Option Call
as_call line code.None = none
as_call line (code.Some (A.Open r place)) = some (opens r (drop place line))
as_call line (code.Some (A.Close h)) = some (closes h)

-- these units, in the first places
pub record Holds (p : PathUnits) (units : List ℕ) : Type 0 where
  pub is : take p.count p.units ≡ units
  pub within : p.count ≤ line_limit
  pub long : length p.units ≡ line_limit

-- these bytes, in the first places
pub record Prints (p : Printed) (text : List ℕ) : Type 0 where
  pub is : take p.count p.bytes ≡ text
  pub within : p.count ≤ 32
  pub long : length p.bytes ≡ 32
