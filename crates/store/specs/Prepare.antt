-- Step 9 and the access part of steps 10 and 11: what an open would do, once its target is found and before its sharing is
-- checked.
use Rattle.std.specs.Prelude.{◌&&◌, ◌||◌, ◌∷◌}
use Rattle.base.specs.Base.{ℕ, Bool, false, cond, not, List, [], Option, none, some, bit_and, bit_or, eqb, within, has, without, is_empty, one_of, supersede, open_only, open_if, disallow_exclusive, read_only, hidden, system, directory, archive, temporary, not_content_indexed, write_data, add_file, add_subdirectory, delete, all_access, file_generic_write, maximum_allowed, share_read, mask_of, Terms, Namespace, Checked, passed, ◌>>=◌, ◌>>◌, refuse_if, InvalidParameter, AccessDenied, MediaWriteProtected, CannotDelete, CreateAction, Superseded, Opened, Overwritten, FileType, Data, Directory, FileNo, StreamNo, File, Request}
use Rattle.access.specs.Access.{access_rule, checked_access}
use Rattle.paths.specs.Paths.{Leaf}
use Rattle.tables.specs.Tables.{file_at}
use Rattle.store.specs.{Request.{wants_directory, deletes_on_close}, Target.{Target, existing_directory, existing_stream, missing_stream, missing_file, target}}

-- what step 10 does to a directory's open when the directory has no open at all
pub data ReadSharing : Type 0 where
  as_offered added_if_alone denied_if_alone : ReadSharing

-- an open of a stream that is there: it goes to the sharing check. `attributes`, if any, become the file's
pub record Existing : Type 0 where
  pub file : FileNo
  pub stream : StreamNo
  pub terms : Terms
  pub read_sharing : ReadSharing
  pub action : CreateAction
  pub attributes : Option ℕ

-- what an open adds
pub data Creation : Type 0 where
  -- to a file, whose attributes become these, the stream that the last component names
  new_stream : FileNo → Leaf → ℕ → Creation
  -- to a directory, under the last component's name, this file; and a stream, if the component names one
  new_file : FileNo → Leaf → File → Creation

-- an open that no step before the sharing check refuses: it reaches that check, or it has none
pub data Pending : Type 0 where
  existing : Existing → Pending
  creating : Creation → Terms → Pending

-- the access rule on a file, for the request's account; then, for an open that deletes on close, that the file may go:
-- not the root, and not one that is read-only
unfoldable pub may_go : Namespace → FileNo → Bool
may_go ns f = not (eqb f.0 0 || has (file_at ns.files f).attributes read_only)

unfoldable pub grant : Namespace → Request → FileNo → ℕ → Checked Terms
grant ns r f access = do
  granted ← checked_access (access_rule (file_at ns.files f) r.account access)
  refuse_if (deletes_on_close r && not (may_go ns f)) CannotDelete
  passed (record { granted = granted; share = r.share })

-- step 9: a new file's granted access and attributes
unfoldable pub granted_new : ℕ → ℕ
granted_new access = cond (has access maximum_allowed) all_access access

unfoldable pub new_type : Request → FileType
new_type r = cond (wants_directory r) Directory Data

unfoldable pub attributes_new : Request → File → ℕ
attributes_new r parent =
    bit_or
    (bit_or (without (bit_and r.attributes 0x3127) not_content_indexed) (bit_and parent.attributes not_content_indexed))
    (cond (wants_directory r) directory archive)

unfoldable pub file_new : Request → File → File
file_new r parent =
    record {
      file_type = new_type r;
      attributes = attributes_new r parent;
      masks = parent.masks;
      delete_pending = false;
    }

unfoldable pub admit_file : Namespace → Request → FileNo → Leaf → Checked Pending
admit_file ns r dir leaf =
    let parent = file_at ns.files dir in
    do
      refuse_if (wants_directory r && has r.attributes temporary) InvalidParameter
      refuse_if (deletes_on_close r && has r.attributes read_only) CannotDelete
      refuse_if (not (has (mask_of parent r.account) (cond (wants_directory r) add_subdirectory add_file))) AccessDenied
      passed
          (creating (new_file dir leaf (file_new r parent)) (record { granted = granted_new r.access; share = r.share }))

-- step 10: share read is not offered, and the account's mask lacks some bit of 0x120116
unfoldable pub read_sharing_of : Request → File → ReadSharing
read_sharing_of r f =
    cond (has r.share share_read || within file_generic_write (mask_of f r.account)) as_offered
    (cond (has r.options disallow_exclusive) denied_if_alone added_if_alone)

-- an open of a stream that is there comes with the terms asked, and goes on with those that the access rule grants
unfoldable pub admit_existing : Namespace → Request → Existing → Checked Pending
admit_existing ns r e = do
  terms ← grant ns r e.file e.terms.granted
  passed
      (existing
      (record {
        file = e.file;
        stream = e.stream;
        terms = terms;
        read_sharing = e.read_sharing;
        action = e.action;
        attributes = e.attributes;
      }))

-- steps 10 and 11, open or open-if of what was found
unfoldable pub admit_open : Namespace → Request → FileNo → StreamNo → ReadSharing → Checked Pending
admit_open ns r f s read_sharing =
    admit_existing ns r
    (record {
      file = f;
      stream = s;
      terms = record { granted = r.access; share = r.share };
      read_sharing = read_sharing;
      action = Opened;
      attributes = none;
    })

-- step 11, stream found, supersede, overwrite or overwrite-if. The file's attributes are looked at as they were; the
-- access gains its bits before the access rule
unfoldable pub hidden_or_system : Request → File → Bool
hidden_or_system r f =
    (has f.attributes hidden && not (has r.attributes hidden))
    || (has f.attributes system && not (has r.attributes system))

unfoldable pub gained : Request → Bool → ℕ
gained r unnamed = bit_or (cond unnamed 0x110 0) (cond (eqb r.disposition supersede) delete write_data)

unfoldable pub replacing : Request → CreateAction
replacing r = cond (eqb r.disposition supersede) Superseded Overwritten

unfoldable pub replacement : Request → Bool → Option ℕ
replacement r unnamed = cond unnamed (some (without (bit_or r.attributes archive) 0x2080)) none

unfoldable pub admit_replace : Namespace → Request → FileNo → StreamNo → Bool → Checked Pending
admit_replace ns r f s unnamed = do
  refuse_if (unnamed && hidden_or_system r (file_at ns.files f)) AccessDenied
  admit_existing ns r
      (record {
        file = f;
        stream = s;
        terms = record { granted = bit_or r.access (gained r unnamed); share = r.share };
        read_sharing = as_offered;
        action = replacing r;
        attributes = replacement r unnamed;
      })

-- step 11, stream missing
unfoldable pub admit_stream : Namespace → Request → FileNo → Leaf → Checked Pending
admit_stream ns r f leaf = do
  terms ← grant ns r f (bit_or r.access write_data)
  refuse_if ns.read_only MediaWriteProtected
  passed (creating (new_stream f leaf (bit_or (file_at ns.files f).attributes archive)) terms)

unfoldable pub admit : Namespace → Request → Target → Checked Pending
admit ns r (existing_directory at s) = admit_open ns r at.file s (read_sharing_of r (file_at ns.files at.file))
admit ns r (existing_stream at leaf s) =
    cond (one_of r.disposition (open_only ∷ open_if ∷ [])) (admit_open ns r at.file s as_offered)
    (admit_replace ns r at.file s (is_empty leaf.stream))
admit ns r (missing_stream at leaf) = admit_stream ns r at.file leaf
admit ns r (missing_file dir leaf) = admit_file ns r dir leaf

-- the target, then the access to it
unfoldable pub prepare : Namespace → Request → List ℕ → Checked Pending
prepare ns r units = target ns r units >>= admit ns r
