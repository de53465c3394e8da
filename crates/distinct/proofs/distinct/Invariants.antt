-- The invariant: the arrays hold the keys before place i, none of
-- which stands already before its own place.
use Rattle.distinct.proofs.{Apart.{Apart}, Filled.{Filled}}
use Rattle.distinct.proofs.distinct.Given as goal

abbrev pub invariant-loop-i : goal.invariant-loop-i
invariant-loop-i l = Filled l.keys l.head l.next l.i × Apart l.keys l.i
