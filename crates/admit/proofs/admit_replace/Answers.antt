-- The old attributes first, then the access rule over the access with the bits that it gained.
use Rattle.std.proofs.Common.{rules}
use Rattle.base.specs.Base.{◌>>◌, refuse_if, as_checked, namespace}
use Rattle.store.specs.Prepare.{admit_replace}
use Rattle.open_steps.specs.Pendings.{as_existing, as_read_sharing}
use Rattle.admit.proofs.admit_replace.Goals as goal

pub returns-then-unnamed-hidden_or_system : goal.returns-then-unnamed-hidden_or_system
unfolding as_checked admit_replace refuse_if ◌>>◌ namespace
returns-then-unnamed-hidden_or_system c = search rules

pub returns : goal.returns
unfolding as_existing as_read_sharing admit_replace refuse_if ◌>>◌ namespace
returns c = search rules
