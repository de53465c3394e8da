-- A reader reads the components of its units in their order: at place 0 all are left to it, and a step answers the first that is left
-- and the reader to which the others are, or the end.
use Rattle.base.{specs.Base.{ℕ, ◌≡◌, List, [], ◌∷◌}, proofs.Laws.refl}
use Rattle.components.{specs.{Components.components, Positions.part_of}, proofs.Places.{next_found, next_none}}
use denote.Ref.{Bor}
use Rattle.path_reader.specs.{Reading.{reader_at, step_of, left}, declared.PathReader.PathReader}

pub all_left : (units : Bor (List ℕ)) → left (reader_at units 0) ≡ components units.now
all_left units = refl

module _ (r : PathReader) where
  pub reads_first : ((step_of r).component.start ≡ (step_of r).component.end → ⊥) → left r ≡ part_of r.units.now (step_of r).component ∷ left (step_of r).reader
  reads_first more = next_found r.units.now r.at more

  pub reads_end : (step_of r).component.start ≡ (step_of r).component.end → left r ≡ []
  reads_end e = next_none r.units.now r.at e
