-- The invariant: what is asked is whether the key stands before place i.
use Rattle.base.{specs.Base.{◌≡◌}}
use Rattle.distinct.specs.Buckets.{found}
use Rattle.distinct.proofs.stands_before.Given as goal

abbrev pub invariant-loop-i : goal.invariant-loop-i
invariant-loop-i l = found l.keys l.key l.end ≡ found l.keys l.key l.i
