-- The loop's invariant: the answer so far, and that for the bytes left.
use Rattle.base.{specs.Base.{◌≡◌, ◌&&◌, length, drop, replicate, all, same}}
use Rattle.stored_names.proofs.StoredUnits.{is_zero}
use Rattle.image_alone.proofs.is_clear.Given as goal

abbrev pub invariant-loop-byte : goal.invariant-loop-byte
invariant-loop-byte l = same l.b (replicate (length l.b) 0) ≡ (l.zeros && all is_zero (drop l.byte-index l.b))
