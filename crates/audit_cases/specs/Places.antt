-- A place that a search finds in a text.
use Rattle.std.specs.Prelude.{ℕ, ◌≤◌}

-- no further than the text's end, and, if the search began within the text, not before its start
pub record Place (at end r : ℕ) : Type 0 where
  pub inside : r ≤ end
  pub after : at ≤ end → at ≤ r
