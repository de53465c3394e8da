-- How many decimal digits a number has: one for each division by ten, and one at the end.
use Rattle.base.{specs.Base.{ℕ, zero, suc, ◌≤◌, ◌<◌, ◌≡◌}, proofs.Laws.{refl, arith, by_cases}}
use Prim.Native.Nat.{◌/◌}
use lib.Dec.{ltb}
use borrow.Author.Tests.{lt-ltb, le-ltb}
use Rattle.script_lines.specs.Print.{width_up_to, decimal_width}

pub width_end : (more n : ℕ) → n < 10 → width_up_to more n ≡ 1
unfolding width_up_to
width_end zero n h = refl
width_end (suc more) n h = rw (lt-ltb n 10 h)

pub width_next : (more m n : ℕ) → more ≡ suc m → 10 ≤ n → width_up_to more n ≡ suc (width_up_to m (n / 10))
unfolding width_up_to
width_next more m n e h = rw (e, le-ltb n 10 h)

width_bound : (more n : ℕ) → width_up_to more n ≤ suc more
unfolding width_up_to
width_bound zero n = omega arith
width_bound (suc more) n =
    by_cases (ltb n 10) (λ e. rw e (omega arith)) (λ e. rw e (let k = width_bound more (n / 10) in omega arith))

pub decimal_bound : (n : ℕ) → decimal_width n ≤ 20
unfolding decimal_width
decimal_bound n = width_bound 19 n
