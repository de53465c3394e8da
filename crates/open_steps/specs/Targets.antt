-- What a found target stands for (steps 1 to 8).
use Rattle.base.specs.Base.{ℕ, List, as_option}
use Rattle.lookup.specs.Lookup.{Resolved}
use Rattle.paths.specs.Positions.{as_leaf}
use Rattle.store.specs.Target.{Target, existing_directory, existing_stream, missing_stream, missing_file}
use Rattle.open_steps.specs.declared.{FoundFile.FoundFile, FoundTarget.FoundTarget}
use Rattle.open_steps.specs.declared.FoundTarget.TheVariants as Found

unfoldable pub as_resolved : FoundFile → Resolved
as_resolved f = record { link = as_option f.link; file = f.file }

-- a last component's places are those of the path
unfoldable pub as_target : List ℕ → FoundTarget → Target
as_target path (Found.Directory at s) = existing_directory (as_resolved at) s
as_target path (Found.Stream at l s) = existing_stream (as_resolved at) (as_leaf path l) s
as_target path (Found.NoStream at l) = missing_stream (as_resolved at) (as_leaf path l)
as_target path (Found.NoFile dir l) = missing_file dir (as_leaf path l)
