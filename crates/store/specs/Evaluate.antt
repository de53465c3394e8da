-- Runs from a fresh volume, for evaluation: a proof that unfolds `computes` computes with every definition.
use Rattle.base.specs.Base.{ℕ, Bool, List, Tables}
use Rattle.access.specs.Evaluate.{computes as access}
use Rattle.bits.specs.Evaluate.{computes as bits}
use Rattle.components.specs.Evaluate.{computes as components}
use Rattle.consistency.specs.Evaluate.{computes as consistency}
use Rattle.format.specs.{Evaluate.computes as format, Format.fresh_tables}
use Rattle.free_slots.specs.Evaluate.{computes as free_slots}
use Rattle.lists.specs.Evaluate.{computes as lists}
use Rattle.lookup.specs.Evaluate.{computes as lookup}
use Rattle.names.specs.Evaluate.{computes as names}
use Rattle.open_table.specs.Evaluate.{computes as open_table}
use Rattle.paths.specs.Evaluate.{computes as paths}
use Rattle.records.specs.Evaluate.{computes as records}
use Rattle.sharing.specs.Evaluate.{computes as sharing}
use Rattle.stored_names.specs.Evaluate.{computes as stored_names}
use Rattle.stream_lookup.specs.Evaluate.{computes as stream_lookup}
use Rattle.tables.specs.Evaluate.{computes as tables}
use Rattle.units.specs.Evaluate.{computes as units}
use Rattle.store.specs.{Request.{wants_directory, wants_file, deletes_on_close, bad_parameters, bad_access, wants_both, writes_volume}, Target.{target_new, wrong_type, target_directory, target_data, target_found, target_at, target}, Prepare.{may_go, grant, granted_new, new_type, attributes_new, file_new, admit_file, read_sharing_of, admit_existing, admit_open, hidden_or_system, gained, replacing, replacement, admit_replace, admit_stream, admit, prepare}, Complete.{changed, with_share_read, share_of, with_attributes, stream_new, link_new, place_file, place_streams, place, next_handle, attribute_change, place_existing, complete, decide}, Close.{of_named_stream, marks_file, marks_stream, removes_file, removes_stream, close_effect, cleared, marked_file, files_after, links_after, marked_bare, streams_after, namespace_after, decide_close}, Store.{has_handle, store_view, write_streams, changed_volume, recount, stored, rows_with_open, volume_with_open, opened, rows_without_open, volume_without_open, struck, marked_stream, volume_after, settled, closed, volume_marked, when_consistent, store_open, store_close, store_set_read_only}, Model.{Model, fresh_model, model_format, model_view, model_opened, model_open, model_struck, model_settled, model_closed, model_close, namespace_marked, model_set_read_only}, Calls.{Call, Run, store_step, model_step, run}}

unfoldable pub computes : Unit {0}
unfolding bits lists records tables open_table free_slots units names stored_names components paths lookup stream_lookup
    access sharing consistency format wants_directory wants_file deletes_on_close bad_parameters bad_access wants_both writes_volume
    target_new wrong_type target_directory target_data target_found target_at target may_go grant granted_new new_type
    attributes_new file_new admit_file read_sharing_of admit_existing admit_open hidden_or_system gained replacing replacement admit_replace
    admit_stream admit prepare changed with_share_read share_of with_attributes stream_new link_new place_file place_streams
    place next_handle attribute_change place_existing complete decide of_named_stream marks_file marks_stream
    removes_file removes_stream close_effect cleared marked_file files_after links_after marked_bare streams_after namespace_after
    decide_close has_handle store_view write_streams
    changed_volume recount stored rows_with_open volume_with_open opened rows_without_open volume_without_open struck
    marked_stream volume_after settled closed volume_marked when_consistent store_open store_close store_set_read_only fresh_model model_format model_view model_opened
    model_open model_struck model_settled model_closed model_close namespace_marked model_set_read_only store_step model_step run
computes = tt

unfoldable pub store_run : List ℕ → Bool → List Call → Run Tables
store_run masks read_only calls = run store_step (fresh_tables masks read_only) calls

unfoldable pub model_run : List ℕ → Bool → List Call → Run Model
model_run masks read_only calls = run model_step (fresh_model masks read_only) calls
