-- The invariant: what is asked is whether the root is at most as many
-- steps above the present file as are left.
use Rattle.base.{specs.Base.{◌≡◌, file_slots}}
use Rattle.audit_links.specs.Linked.{leads}
use Rattle.audit_links.proofs.leads_to_root.Given as goal

abbrev pub invariant-loop-left : goal.invariant-loop-left
invariant-loop-left l = leads l.up file_slots l.from ≡ leads l.up l._left l.at
