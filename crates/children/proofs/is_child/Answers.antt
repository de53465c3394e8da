use mathlib.Core.Bool.{and-true, and-false}
use Rattle.consistency.specs.Relations.{child_of}
use Rattle.children.proofs.is_child.Goals as goal

pub returns-then-eq : goal.returns-then-eq
unfolding child_of
returns-then-eq c = rw (← c.read_link_used.ensures, ← c.read_parent.ensures, ← c.eq.ensures, c.if-eq.true, and-true)

pub returns-else-eq : goal.returns-else-eq
unfolding child_of
returns-else-eq c = rw (← c.read_parent.ensures, ← c.eq.ensures, c.if-eq.false, and-false)
