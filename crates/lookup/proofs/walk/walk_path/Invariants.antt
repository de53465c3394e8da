-- The loop's invariant: the answer is that from the present directory through what is left of the path.
use Rattle.base.{specs.Base.{◌-◌, ◌≡◌, length, root, namespace}}
use Rattle.components.specs.Positions.{part_of, parents_of}
use Rattle.layout.specs.Layout.{decode}
use Rattle.lookup.proofs.Walking.{walk_left}
use Rattle.lookup.specs.Answers.{walked_from}
use Rattle.lookup.proofs.walk.walk_path.Given as goal

abbrev pub invariant-components : goal.invariant-components
invariant-components l =
    let ns = namespace (decode l.b).volume in
    walked_from ns l.fold root (parents_of l.path l.last) (part_of l.path l.last) ≡ walk_left ns l.fold l.dir (part_of l.path l.last) l.parents l.at

abbrev pub decreases-components : goal.decreases-components
decreases-components l = length l.parents - l.at
