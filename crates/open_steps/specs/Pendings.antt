-- What a pending open stands for (step 9, and the access part of steps 10 and 11).
use Rattle.base.specs.Base.{ℕ, false, List, as_option, File}
use Rattle.paths.specs.Positions.{as_leaf}
use Rattle.store.specs.Prepare.{ReadSharing, as_offered, added_if_alone, denied_if_alone, Existing, new_stream, new_file, Pending, existing, creating}
use Rattle.tables.specs.Tables.{file_at}
use Rattle.open_steps.specs.declared.{SharingRule.{SharingRule, TheVariants.{AsOffered, AddedIfAlone, DeniedIfAlone}}, ExistingOpen.ExistingOpen, FileToAdd.FileToAdd, PendingOpen.PendingOpen}
use Rattle.open_steps.specs.declared.PendingOpen.TheVariants as Open

unfoldable pub as_read_sharing : SharingRule → ReadSharing
as_read_sharing AsOffered = as_offered
as_read_sharing AddedIfAlone = added_if_alone
as_read_sharing DeniedIfAlone = denied_if_alone

unfoldable pub as_existing : ExistingOpen → Existing
as_existing e =
    record {
      file = e.file;
      stream = e.stream;
      terms = e.terms;
      read_sharing = as_read_sharing e.read_sharing;
      action = e.action;
      attributes = as_option e.attributes;
    }

-- a new file copies the masks of its directory, which is one of these files
unfoldable pub as_file : List File → FileToAdd → File
as_file fs f =
    record {
      file_type = f.file_type;
      attributes = f.attributes;
      masks = (file_at fs f.dir).masks;
      delete_pending = false;
    }

unfoldable pub as_pending : List File → List ℕ → PendingOpen → Pending
as_pending fs path (Open.Existing e) = existing (as_existing e)
as_pending fs path (Open.NewStream s) =
    creating (new_stream s.file (as_leaf path s.leaf) s.attributes) s.terms
as_pending fs path (Open.NewFile f) =
    creating (new_file f.dir (as_leaf path f.leaf) (as_file fs f)) f.terms
