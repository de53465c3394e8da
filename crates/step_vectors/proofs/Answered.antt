-- The lines of the step cases print on the model what the cases say, by evaluation of the definitions. By the law `every_script`
-- the compiled calls print the same.
use Rattle.base.{specs.Base.◌++◌, proofs.Laws.refl}
use Rattle.store.specs.StepCases.{Parameters.{parameter_cases, outside_cases, access_bit_cases}, Names.{path_cases, name_cases, control_cases}, Lookups.{read_only_cases, lookup_cases, type_cases}, NewFiles.{new_file_cases, parent_cases}, Directories.{directory_cases, share_read_cases}, Streams.{found_cases, gained_cases, missing_cases}, Rules.{access_cases, sharing_cases}, Resources.{resource_cases, slot_cases}, Calls.call_cases, Deletes.{delete_option_cases, cannot_delete_new_cases, cannot_delete_directory_cases, cannot_delete_stream_cases}, Pending.{pending_file_cases, pending_directory_cases, pending_stream_cases}, Removals.{mark_cases, child_cases, removed_file_cases, removed_stream_cases}}
use Rattle.step_vectors.specs.Vectors.{computes, Answered}

pub parameters_answered : Answered (parameter_cases ++ outside_cases ++ access_bit_cases)
unfolding computes
parameters_answered = refl

pub names_answered : Answered (path_cases ++ name_cases)
unfolding computes
names_answered = refl

pub control_units_answered : Answered control_cases
unfolding computes
control_units_answered = refl

pub lookups_answered : Answered (read_only_cases ++ lookup_cases ++ type_cases)
unfolding computes
lookups_answered = refl

pub new_files_answered : Answered (new_file_cases ++ parent_cases)
unfolding computes
new_files_answered = refl

pub directories_answered : Answered (directory_cases ++ share_read_cases)
unfolding computes
directories_answered = refl

pub streams_answered : Answered (found_cases ++ gained_cases ++ missing_cases)
unfolding computes
streams_answered = refl

pub rules_answered : Answered (access_cases ++ sharing_cases)
unfolding computes
rules_answered = refl

pub calls_answered : Answered (resource_cases ++ slot_cases ++ call_cases)
unfolding computes
calls_answered = refl

pub deletes-answered : Answered (delete_option_cases ++ cannot_delete_new_cases ++ cannot_delete_directory_cases ++ cannot_delete_stream_cases)
unfolding computes
deletes-answered = refl

pub pending-answered : Answered (pending_file_cases ++ pending_directory_cases ++ pending_stream_cases)
unfolding computes
pending-answered = refl

pub removals_answered : Answered (mark_cases ++ child_cases ++ removed_file_cases ++ removed_stream_cases)
unfolding computes
removals_answered = refl
