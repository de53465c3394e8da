-- The invariant: the pass over the rows from i on.
use Rattle.base.{specs.Base.{◌≤◌, open_slots}, proofs.Laws.{Scanned}}
use Rattle.layout.{specs.Layout.decode}
use Rattle.audit_opens.proofs.{OpensScan.{handle_no, open_test}}
use Rattle.audit_opens.proofs.rows_consistent.Given as goal

abbrev pub invariant-loop-i : goal.invariant-loop-i
invariant-loop-i l =
    let t = decode l.b in
    (l.i ≤ open_slots) × Scanned (open_test t.volume.streams t.volume.next_handle.0) handle_no t.opens.rows l.keys l.i
