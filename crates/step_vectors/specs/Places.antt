-- A place after a line of a text.
use Rattle.std.specs.Prelude.{◌≤◌, ◌<◌}
use Rattle.base.specs.Base.{ℕ}

-- no further than the text's end, and, within the text, past where the line begins
pub record After (at end r : ℕ) : Type 0 where
  pub inside : r ≤ end
  pub past : at < end → at < r
