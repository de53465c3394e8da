-- The loop's invariant: what was added up, with what the places left weigh, is
-- the name's.
use Rattle.base.{specs.Base.{◌+◌, ◌*◌, ◌≤◌, ◌≡◌, length, drop}}
use Rattle.name_keys.specs.NameKeys.{weighed_from}
use Rattle.name_keys.proofs.name_key.Given as goal

abbrev pub invariant-loop-i : goal.invariant-loop-i
invariant-loop-i l =
    (l.i ≤ length l.name)
    × (l.sum ≤ 33422850 * l.i)
    × (weighed_from 0 l.name ≡ l.sum + weighed_from l.i (drop l.i l.name))
