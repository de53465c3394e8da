-- The invariant: no key before `place` stands already before its own place.
use Rattle.distinct.proofs.{Apart.{Apart}}
use Rattle.distinct.proofs.distinct_by_pairs.Given as goal

abbrev pub invariant-loop-place : goal.invariant-loop-place
invariant-loop-place l = Apart l.keys l.place
