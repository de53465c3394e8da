use Rattle.std.proofs.Common.{rules, tests}
use Rattle.std.proofs.lemmas.Iterator.{IsFirst-from_position, YieldsList-from_slice}
use Rattle.base.specs.Base.{◌≡◌, true, false, open_used}
use Rattle.open_table.specs.Rows.{has_handle}
use Rattle.open_rows.proofs.{Row.first_is}
use Rattle.open_rows.proofs.row_of.Goals as goal

pub returns : goal.returns
unfolding has_handle open_used
returns c =
    let h = c.args.h in
    first_is (has_handle h) c.args.row.now c.position.result
    (IsFirst-from_position _ _ _ (λ o. has_handle h o ≡ true) (λ o. has_handle h o ≡ false) c.position.ensures.ran (YieldsList-from_slice _ (cc)) (λ x q k. search (rules, tests)) (λ x q k. search (rules, tests)))
