-- The tests are the parts of the whole. The walk over the opens is the test of conflicts, as it comes after the counts.
use Rattle.base.{specs.Base.{ℕ, ◌≡◌, Bool, true, ◌&&◌, List, namespace}, proofs.Laws.{sym, ◌∙◌}}
use Rattle.audit_conflicts.specs.Others.{others_test}
use Rattle.consistency.specs.Test.{consistent, opens_test, counts_test, conflicts_test}
use Rattle.layout.specs.Layout.{decode}
use Rattle.audit.proofs.Conflicts.{no_two_conflict}
use Rattle.audit.proofs.tables_consistent.Goals as goal

-- what the code found of a table, as its test says it
says : {found test b : Bool} → found ≡ test → found ≡ b → test ≡ b
says e h = sym e ∙ h

module _ (b : List ℕ) where
  -- the opens are good, and the counts true
  abbrev good_opens : Bool
  good_opens = let v = (decode b).volume in opens_test (namespace v).streams v.next_handle.0 (decode b).opens.rows

  abbrev true_counts : Bool
  true_counts = counts_test (decode b).volume.streams (decode b).opens.rows

  -- then what the walk found is whether no two conflict
  no_conflict_lem : (good_opens && true_counts) ≡ true → {found : Bool}
      → found ≡ others_test (decode b).volume.streams (decode b).opens.rows → found ≡ conflicts_test (decode b).opens.rows
  no_conflict_lem e f = f ∙ no_two_conflict (decode b).volume (decode b).opens e

pub returns-then-not-files_consistent : goal.returns-then-not-files_consistent
unfolding consistent
returns-then-not-files_consistent c =
    sym
    (rw (
      consistent,
      says c.files_consistent.ensures c.if-not-files_consistent.true,
    ))

pub returns-then-not-links_consistent : goal.returns-then-not-links_consistent
unfolding consistent
returns-then-not-links_consistent c =
    sym
    (rw (
      consistent,
      says c.files_consistent.ensures c.if-not-files_consistent.false,
      says c.links_consistent.ensures c.if-not-links_consistent.true,
    ))

pub returns-then-not-streams_consistent : goal.returns-then-not-streams_consistent
unfolding consistent
returns-then-not-streams_consistent c =
    sym
    (rw (
      consistent,
      says c.files_consistent.ensures c.if-not-files_consistent.false,
      says c.links_consistent.ensures c.if-not-links_consistent.false,
      says c.streams_consistent.ensures c.if-not-streams_consistent.true,
    ))

pub returns-then-not-opens_consistent : goal.returns-then-not-opens_consistent
unfolding consistent
returns-then-not-opens_consistent c =
    sym
    (rw (
      consistent,
      says c.files_consistent.ensures c.if-not-files_consistent.false,
      says c.links_consistent.ensures c.if-not-links_consistent.false,
      says c.streams_consistent.ensures c.if-not-streams_consistent.false,
      says c.opens_consistent.ensures c.if-not-opens_consistent.true,
    ))

pub returns-then-not-no_conflicts : goal.returns-then-not-no_conflicts
unfolding consistent
returns-then-not-no_conflicts c =
    let b = c.args.b.now in
    -- looked for by what it says, whichever call stands before
    let good : (good_opens b && true_counts b) ≡ true = search says in
    sym
    (rw (
      consistent,
      says c.files_consistent.ensures c.if-not-files_consistent.false,
      says c.links_consistent.ensures c.if-not-links_consistent.false,
      says c.streams_consistent.ensures c.if-not-streams_consistent.false,
      good,
      says (no_conflict_lem b good c.no_conflicts.ensures) c.if-not-no_conflicts.true,
    ))

pub returns : goal.returns
unfolding consistent
returns c =
    let b = c.args.b.now in
    -- looked for by what it says, whichever call stands before
    let good : (good_opens b && true_counts b) ≡ true = search says in
    rw (
      consistent,
      says c.files_consistent.ensures c.if-not-files_consistent.false,
      says c.links_consistent.ensures c.if-not-links_consistent.false,
      says c.streams_consistent.ensures c.if-not-streams_consistent.false,
      good,
      says (no_conflict_lem b good c.no_conflicts.ensures) c.if-not-no_conflicts.false,
    )
    c.marks_consistent.ensures
