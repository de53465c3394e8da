-- No row that was looked at is asked for and has an open.
use Rattle.base.specs.Base.{ℕ, ◌<◌, ◌≡◌, ◌⊎◌, get_or, false, open_used, zero_open}
use Rattle.layout.specs.Layout.{decode}
use Rattle.open_table.proofs.has_open.Given as goal

abbrev pub invariant-loop-i : goal.invariant-loop-i
invariant-loop-i g l =
    (k : ℕ) → k < l.i → goal.F-post g l.asked k false ⊎ (open_used (get_or (decode l.b).opens.rows k zero_open) ≡ false)
