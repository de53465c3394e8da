-- A part of a row that is lent, written and given back.
use lib.{ListN.length-append, Seq.{sets-eq, drop-drop}}
use mathlib.Core.List.{append_assoc}
use Rattle.base.{specs.Base.{ℕ, ◌+◌, ◌≤◌, ◌≡◌, List, ◌++◌, length, take, drop}, proofs.Laws.{sym, arith, length-take, length-drop}}
use Rattle.little_endian.specs.Writes.{Wrote}

-- a part that was lent comes back written over
pub part_written : (l xs : List ℕ) {ys : List ℕ} (at k : ℕ) → ys ≡ xs → length xs ≡ k → at + k ≤ length l
    → Wrote l at xs (take at l ++ (ys ++ drop k (drop at l)))
part_written l xs at k same e h =
    rw same
    (record {
      is = rw (drop-drop, ← e, ← append_assoc (take at l) xs (drop (at + length xs) l)) (sym (sets-eq xs l at (omega arith)));
      kept = simp (length-append, length-take, length-drop) (omega arith);
    })
