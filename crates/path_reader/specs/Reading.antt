-- Step 6: a reader of a path's components, and its step.
use Rattle.base.specs.Base.{ℕ, List, drop}
use Rattle.components.specs.{Components.components, Positions.next_component, declared.Part.Part}
use Rattle.std.specs.Borrow.{Bor}
use Rattle.path_reader.specs.declared.{PathReader.PathReader, Step.Step}

-- a reader of the lent units, at a place
abbrev pub reader_at : Bor (List ℕ) → ℕ → PathReader
reader_at units at = record { units = units; at = at }

-- the first component from the reader's place on; an empty part where there is none
abbrev pub component_of : PathReader → Part
component_of r = next_component r.units.now r.at

-- a step: that component, and the reader of the same units at the component's end
abbrev pub step_of : PathReader → Step
step_of r = record { component = component_of r; reader = reader_at r.units (component_of r).end }

-- the components that are left to a reader; the laws of proofs/Order say that a step takes the first of them
abbrev pub left : PathReader → List (List ℕ)
left r = components (drop r.at r.units.now)
