-- The step cases hold, by evaluation of the definitions.
use Rattle.base.proofs.Laws.{refl}
use Rattle.store.specs.StepCases.{Form.{expected, failing, Hold}, Parameters.{parameter_cases, outside_cases, access_bit_cases}, Names.{path_cases, name_cases, control_cases, names_alone, NamesAloneHold}, Lookups.{read_only_cases, lookup_cases, type_cases}, NewFiles.{new_file_cases, parent_cases}, Directories.{directory_cases, share_read_cases}, Streams.{found_cases, gained_cases, missing_cases}, Rules.{access_cases, sharing_cases}, Resources.{tables, sparse, resource_cases, slot_cases}, Calls.call_cases, Deletes.{delete_option_cases, cannot_delete_new_cases, cannot_delete_directory_cases, cannot_delete_stream_cases}, Pending.{pending_file_cases, pending_directory_cases, pending_stream_cases}, Removals.{mark_cases, child_cases, removed_file_cases, removed_stream_cases}, Shares.{expected_shares, SharesHold, share_cases}, Tables.{expected_tables, TablesHold, corrupt_cases, format_cases, run_cases}}

pub parameter_cases_lem : Hold parameter_cases
unfolding expected failing
parameter_cases_lem = refl

pub outside_cases_lem : Hold outside_cases
unfolding expected failing
outside_cases_lem = refl

pub access_bit_cases_lem : Hold access_bit_cases
unfolding expected failing
access_bit_cases_lem = refl

pub path_cases_lem : Hold path_cases
unfolding expected failing
path_cases_lem = refl

pub name_cases_lem : Hold name_cases
unfolding expected failing
name_cases_lem = refl

pub control_cases_lem : Hold control_cases
unfolding expected failing
control_cases_lem = refl

pub names_alone_lem : NamesAloneHold
unfolding expected names_alone
names_alone_lem = refl

pub read_only_cases_lem : Hold read_only_cases
unfolding expected failing
read_only_cases_lem = refl

pub lookup_cases_lem : Hold lookup_cases
unfolding expected failing
lookup_cases_lem = refl

pub type_cases_lem : Hold type_cases
unfolding expected failing
type_cases_lem = refl

pub new_file_cases_lem : Hold new_file_cases
unfolding expected failing
new_file_cases_lem = refl

pub parent_cases_lem : Hold parent_cases
unfolding expected failing
parent_cases_lem = refl

pub directory-cases : Hold directory_cases
unfolding expected failing
directory-cases = refl

pub share_read_cases_lem : Hold share_read_cases
unfolding expected failing
share_read_cases_lem = refl

pub found_cases_lem : Hold found_cases
unfolding expected failing
found_cases_lem = refl

pub gained-cases : Hold gained_cases
unfolding expected failing
gained-cases = refl

pub missing_cases_lem : Hold missing_cases
unfolding expected failing
missing_cases_lem = refl

pub resource_cases_lem : Hold resource_cases
unfolding expected failing tables
resource_cases_lem = refl

pub slot_cases_lem : Hold slot_cases
unfolding expected failing sparse
slot_cases_lem = refl

pub access_cases_lem : Hold access_cases
unfolding expected failing
access_cases_lem = refl

pub sharing_cases_lem : Hold sharing_cases
unfolding expected failing
sharing_cases_lem = refl

pub share_cases_lem : SharesHold share_cases
unfolding expected_shares failing
share_cases_lem = refl

pub call_cases_lem : Hold call_cases
unfolding expected failing
call_cases_lem = refl

pub delete_option_cases_lem : Hold delete_option_cases
unfolding expected failing
delete_option_cases_lem = refl

pub cannot_delete_new_cases_lem : Hold cannot_delete_new_cases
unfolding expected failing
cannot_delete_new_cases_lem = refl

pub cannot_delete_directory_cases_lem : Hold cannot_delete_directory_cases
unfolding expected failing
cannot_delete_directory_cases_lem = refl

pub cannot_delete_stream_cases_lem : Hold cannot_delete_stream_cases
unfolding expected failing
cannot_delete_stream_cases_lem = refl

pub pending_file_cases_lem : Hold pending_file_cases
unfolding expected failing
pending_file_cases_lem = refl

pub pending_directory_cases_lem : Hold pending_directory_cases
unfolding expected failing
pending_directory_cases_lem = refl

pub pending_stream_cases_lem : Hold pending_stream_cases
unfolding expected failing
pending_stream_cases_lem = refl

pub mark_cases_lem : Hold mark_cases
unfolding expected failing
mark_cases_lem = refl

pub child_cases_lem : Hold child_cases
unfolding expected failing
child_cases_lem = refl

pub removed_file_cases_lem : Hold removed_file_cases
unfolding expected failing
removed_file_cases_lem = refl

pub removed_stream_cases_lem : Hold removed_stream_cases
unfolding expected failing
removed_stream_cases_lem = refl

pub corrupt-cases : TablesHold corrupt_cases
unfolding expected_tables failing
corrupt-cases = refl

pub format-cases : TablesHold format_cases
unfolding expected_tables failing
format-cases = refl

pub run-cases : TablesHold run_cases
unfolding expected_tables failing
run-cases = refl
