-- The walk over the opens is the test of conflicts, as it comes after the tests of the opens and of the counts.
use Rattle.base.{specs.Base.{◌≡◌, Bool, true, ◌&&◌, Volume, OpenTable, namespace}, proofs.Laws.{and_left, and_right}}
use Rattle.audit_conflicts.{specs.Others.others_test, proofs.Others.others_decide}
use Rattle.consistency.specs.Test.{opens_test, counts_test, conflicts_test}

module _ (v : Volume) (t : OpenTable) where
  abbrev good_opens : Bool
  good_opens = opens_test (namespace v).streams v.next_handle.0 t.rows

  abbrev true_counts : Bool
  true_counts = counts_test v.streams t.rows

  pub no_two_conflict : (good_opens && true_counts) ≡ true → others_test v.streams t.rows ≡ conflicts_test t.rows
  unfolding namespace
  no_two_conflict e =
      others_decide _ _ _ (and_left good_opens true_counts e) (and_right good_opens true_counts e)
