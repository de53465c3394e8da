-- The share counts with one open more in fields that end at a limit. Counts below it become those of the sharing rule.
use Rattle.base.specs.Base.{ℕ, Open, ShareCounts}
use Rattle.std.specs.Prelude.{min, ◌+◌}
use Rattle.sharing.specs.Sharing.{changed_by}

-- what a field of a ShareCounts ends at
abbrev pub count_limit : ℕ
count_limit = 65535

unfoldable pub plus_up_to : ℕ → ℕ → ℕ → ℕ
plus_up_to limit a b = min (a + b) limit

unfoldable pub with_open_up_to : ℕ → Open → ShareCounts → ShareCounts
with_open_up_to limit = changed_by (plus_up_to limit)
