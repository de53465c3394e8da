use Rattle.std.proofs.Common.{rules}
use Rattle.base.specs.Base.{as_checked, ◌>>◌, refuse_if}
use Rattle.open_steps.specs.Pendings.{as_read_sharing}
use Rattle.store.specs.Complete.{with_share_read, share_of}
use Rattle.complete.proofs.stored_terms.Goals as goal

pub returns-in-AddedIfAlone : goal.returns-in-AddedIfAlone
unfolding as_checked as_read_sharing share_of with_share_read refuse_if ◌>>◌
returns-in-AddedIfAlone c = search rules

pub returns-in-DeniedIfAlone : goal.returns-in-DeniedIfAlone
unfolding as_checked as_read_sharing share_of with_share_read refuse_if ◌>>◌
returns-in-DeniedIfAlone c = search rules

pub returns-in_default : goal.returns-in_default
unfolding as_checked as_read_sharing share_of with_share_read refuse_if ◌>>◌
returns-in_default c = search rules

pub returns-in_default-2 : goal.returns-in_default-2
unfolding as_checked as_read_sharing share_of with_share_read refuse_if ◌>>◌
returns-in_default-2 c = search rules

pub returns-in_default-3 : goal.returns-in_default-3
unfolding as_checked as_read_sharing share_of with_share_read refuse_if ◌>>◌
returns-in_default-3 c = search rules
