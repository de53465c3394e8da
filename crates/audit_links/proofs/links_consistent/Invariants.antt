-- The invariant: the links from i on are passed. Then the names and the files are the other parts of the test.
use Rattle.layout.{specs.Layout.decode}
use Rattle.audit_links.proofs.{Pass.{Passed}}
use Rattle.audit_links.proofs.links_consistent.Given as goal

abbrev pub invariant-loop-i : goal.invariant-loop-i
invariant-loop-i l = Passed (decode l.b).volume.files (decode l.b).volume.links l.keys l.counts l.up l.i
