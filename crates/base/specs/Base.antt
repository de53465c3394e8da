-- The words of the definitions under one name: numbers, tests, lists, what the rules ask of a table, bits, the records and
-- the constants. Every crate above `records` takes them from here.
pub use Rattle.std.specs.Prelude.{ℕ, zero, suc, ◌+◌, ◌-◌, ◌*◌, ◌≤◌, ◌<◌, ◌≡◌, ◌≢◌, ◌⊎◌, ◌↔◌, Bool, true, false, not, cond, ◌&&◌, ◌||◌, List, [], ◌∷◌, ◌++◌, map, length, get_or, set, take, drop, replicate, eqb, leb, ltb}
pub use Rattle.std.proofs.Common.{inl, inr}
pub use Rattle.std.proofs.Math.Option.{Option, none, some}
pub use Rattle.std.specs.Int.Bits.{bit_and, bit_or}
pub use Rattle.std.proofs.Math.Seq.{slice}
unfoldable pub use Rattle.bits.specs.Bits.{within, has, without}
pub use Rattle.lists.specs.Lists.{Permutation, nil, skip, swap, both, first, first_free}
unfoldable pub use Rattle.lists.specs.Lists.{all, all_from, any, count, keep, pairs, first_from, find, first_after, writes, is_empty, same, one_of, padded}
pub use Rattle.records.specs.declared.{FileNo.FileNo, LinkNo.LinkNo, StreamNo.StreamNo, Handle.Handle, Terms.Terms, FileType.FileType, FileType.TheVariants.Unused, FileType.TheVariants.Data, FileType.TheVariants.Directory, File.File, Link.Link, ShareCounts.ShareCounts, Stream.Stream, Open.Open, Volume.Volume, OpenTable.OpenTable, Request.Request, CreateAction.CreateAction, CreateAction.TheVariants.Superseded, CreateAction.TheVariants.Opened, CreateAction.TheVariants.Created, CreateAction.TheVariants.Overwritten, Status.Status, Status.TheVariants.FileCorruptError, Status.TheVariants.InvalidParameter, Status.TheVariants.AccessDenied, Status.TheVariants.ObjectNameInvalid, Status.TheVariants.MediaWriteProtected, Status.TheVariants.ObjectPathNotFound, Status.TheVariants.ObjectNameNotFound, Status.TheVariants.ObjectNameCollision, Status.TheVariants.FileIsADirectory, Status.TheVariants.NotADirectory, Status.TheVariants.SharingViolation, Status.TheVariants.DiskFull, Status.TheVariants.TooManyOpenedFiles, Status.TheVariants.InsufficientResources, Status.TheVariants.InvalidHandle, Status.TheVariants.CannotDelete, Status.TheVariants.DeletePending, Outcome.Outcome, Outcome.TheVariants.Success, Outcome.TheVariants.Done, Outcome.TheVariants.Refused, Answer.Answer}
pub use Rattle.records.specs.Sizes.{file_slots, link_slots, stream_slots, open_slots, file_name_limit, stream_name_limit, path_limit, accounts, last_handle}
pub use Rattle.records.specs.Constants.{supersede, open_only, create, open_if, overwrite, overwrite_if, directory_file, non_directory_file, delete_on_close, disallow_exclusive, read_only, hidden, system, directory, archive, temporary, not_content_indexed, file_attributes, write_data, append_data, add_file, add_subdirectory, delete, all_access, file_generic_write, maximum_allowed, share_read, share_all}
pub use Rattle.records.specs.Numbers.{Reply, Seen, refused_reply, done_reply}
unfoldable pub use Rattle.records.specs.Numbers.{status_number, action_number, seen}
pub use Rattle.records.specs.Slots.{root, zero_file, zero_link, zero_counts, zero_stream, zero_open}
unfoldable pub use Rattle.records.specs.Slots.{is_used, is_directory, is_data, file_used, link_used, stream_used, open_used, mask_of}
pub use Rattle.records.specs.Terms.{terms_of}
pub use Rattle.records.specs.Namespace.{BareStream, Namespace, zero_bare}
unfoldable pub use Rattle.records.specs.Namespace.{bare_used, bare_at, bare, with_counts, namespace}
pub use Rattle.records.specs.Checked.{Refusal, Checked, refused, passed, refuse}
unfoldable pub use Rattle.records.specs.Checked.{◌>>=◌, ◌>>◌, refuse_if, some_or, as_option, as_checked}
pub use Rattle.records.specs.State.{Tables, Step, Answers, done}
unfoldable pub use Rattle.records.specs.State.{concluded}
