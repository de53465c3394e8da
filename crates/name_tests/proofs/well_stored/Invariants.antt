-- The loop's invariant: what was counted and added up, with what the places
-- left give, is that of the name.
use Rattle.base.{specs.Base.{◌+◌, ◌*◌, ◌≤◌, ◌≡◌, length, drop}}
use Rattle.name_tests.proofs.{Odds.{counted, odds}}
use Rattle.name_tests.proofs.well_stored.Given as goal

abbrev pub invariant-loop-i : goal.invariant-loop-i
invariant-loop-i l =
    (l.i ≤ length l.name)
    × (l.count ≤ l.i)
    × (l.sum ≤ 64 * l.i)
    × (counted l.name ≡ l.count + counted (drop l.i l.name))
    × (odds 0 l.name ≡ l.sum + odds l.i (drop l.i l.name))
