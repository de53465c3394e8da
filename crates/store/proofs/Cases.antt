-- The worked cases hold, by evaluation of the definitions.
use Rattle.base.proofs.Laws.{refl}
use Rattle.store.specs.{Evaluate.{computes, store_run, model_run}, Cases.{attributes_of, seven_counts, observed, expected, Hold, worked_cases, further_cases}}

pub worked_cases_lem : Hold worked_cases
unfolding computes store_run model_run attributes_of seven_counts observed expected
worked_cases_lem = refl

pub further_cases_lem : Hold further_cases
unfolding computes store_run model_run attributes_of seven_counts observed expected
further_cases_lem = refl
