-- The invariant: what is asked is what the rest of the files say.
use Rattle.base.{specs.Base.{◌≡◌, drop, all_from}}
use Rattle.layout.{specs.Layout.decode}
use Rattle.audit_links.specs.Linked.{file_linked}
use Rattle.audit_links.proofs.files_linked.Given as goal

abbrev pub invariant-loop-i : goal.invariant-loop-i
invariant-loop-i l =
    all_from (file_linked l.counts l.up) 0 (decode l.b).volume.files ≡ all_from (file_linked l.counts l.up) l.i (drop l.i (decode l.b).volume.files)
