-- Steps 1 to 8, and the stream of steps 10 and 11: what an open leads to, found without looking at the opens.
use Rattle.std.specs.Prelude.{◌&&◌, ◌||◌, ◌∷◌}
use Rattle.base.specs.Base.{ℕ, Bool, true, false, cond, not, List, [], Option, none, some, eqb, one_of, open_only, create, open_if, overwrite, is_directory, Namespace, bare_at, Checked, passed, ◌>>=◌, ◌>>◌, refuse_if, some_or, FileCorruptError, InvalidParameter, AccessDenied, MediaWriteProtected, ObjectNameNotFound, ObjectNameCollision, FileIsADirectory, NotADirectory, DeletePending, FileNo, StreamNo, Request}
use Rattle.lookup.specs.Lookup.{Resolved, Place, found, missing, locate}
use Rattle.paths.specs.Paths.{Leaf, parse_path}
use Rattle.stream_lookup.specs.StreamLookup.{find_stream}
use Rattle.tables.specs.Tables.{file_at}
use Rattle.store.specs.Request.{wants_directory, wants_file, bad_parameters, bad_access, wants_both, writes_volume}

-- a stream that is there, or what is missing
pub data Target : Type 0 where
  -- a directory's stream
  existing_directory : Resolved → StreamNo → Target
  -- a data file's stream of the last component's name
  existing_stream : Resolved → Leaf → StreamNo → Target
  -- a data file without such a stream
  missing_stream : Resolved → Leaf → Target
  -- a directory without the last component's name
  missing_file : FileNo → Leaf → Target

-- step 7: the last name is missing
unfoldable pub target_new : Namespace → Request → FileNo → Leaf → Checked Target
target_new ns r dir leaf = do
  refuse_if (one_of r.disposition (open_only ∷ overwrite ∷ [])) ObjectNameNotFound
  refuse_if ns.read_only MediaWriteProtected
  passed (missing_file dir leaf)

-- step 8: what was found is not of the type asked for
unfoldable pub wrong_type : Request → Leaf → Bool → Checked (Unit {0})
wrong_type r leaf true =
    refuse_if (wants_file r || leaf.colon) (cond (eqb r.disposition create) ObjectNameCollision FileIsADirectory)
wrong_type r leaf false =
    refuse_if (wants_directory r) (cond (eqb r.disposition create) ObjectNameCollision NotADirectory)

-- step 10: a found directory is opened and nothing else. A consistent one has its stream
unfoldable pub target_directory : Namespace → Request → Resolved → Checked Target
target_directory ns r at = do
  refuse_if (not (one_of r.disposition (open_only ∷ open_if ∷ [])))
      (cond (eqb at.file.0 0) AccessDenied ObjectNameCollision)
  stream ← some_or FileCorruptError (find_stream ns false at.file [])
  passed (existing_directory at stream)

-- step 11: a found data file, by the stream that was searched for
unfoldable pub target_data : Namespace → Request → Resolved → Leaf → Option StreamNo → Checked Target
target_data ns r at leaf (some s) = do
  refuse_if (bare_at ns.streams s).delete_pending DeletePending
  refuse_if (eqb r.disposition create) ObjectNameCollision
  passed (existing_stream at leaf s)
target_data ns r at leaf none = do
  refuse_if (one_of r.disposition (open_only ∷ overwrite ∷ [])) ObjectNameNotFound
  passed (missing_stream at leaf)

unfoldable pub target_found : Namespace → Request → Leaf → Resolved → Checked Target
target_found ns r leaf at =
    let is_dir = is_directory (file_at ns.files at.file).file_type in
    do
      wrong_type r leaf is_dir
      cond is_dir (target_directory ns r at) (target_data ns r at leaf (find_stream ns r.fold at.file leaf.stream))

unfoldable pub target_at : Namespace → Request → Leaf → Place → Checked Target
target_at ns r leaf (found at) = target_found ns r leaf at
target_at ns r leaf (missing dir name) = target_new ns r dir name

-- the steps in order
unfoldable pub target : Namespace → Request → List ℕ → Checked Target
target ns r units = do
  refuse_if (bad_parameters r) InvalidParameter
  refuse_if (bad_access r) AccessDenied
  refuse_if (wants_both r) InvalidParameter
  path ← parse_path (wants_directory r) (wants_file r) units
  refuse_if (ns.read_only && writes_volume r) MediaWriteProtected
  place ← locate ns r.fold path
  target_at ns r path.leaf place
