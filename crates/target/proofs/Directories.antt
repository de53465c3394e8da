-- A found directory is refused where the disposition does more than open it.
use Rattle.base.{specs.Base.{◌≡◌, true, false, [], ◌∷◌, eqb, one_of, open_only, open_if, Namespace, refuse, ◌>>◌, refuse_if, AccessDenied, ObjectNameCollision, Request}}
use Rattle.open_steps.specs.{Targets.as_resolved, declared.FoundFile.FoundFile}
use Rattle.store.specs.Target.{target_directory}

module _ (ns : Namespace) (r : Request) (at : FoundFile) (more : one_of r.disposition (open_only ∷ open_if ∷ []) ≡ false) where
  pub root_denied : eqb at.file.0 0 ≡ true → target_directory ns r (as_resolved at) ≡ refuse AccessDenied
  unfolding as_resolved target_directory refuse_if ◌>>◌
  root_denied root = rw (more, root)

  pub directory_collides : eqb at.file.0 0 ≡ false → target_directory ns r (as_resolved at) ≡ refuse ObjectNameCollision
  unfolding as_resolved target_directory refuse_if ◌>>◌
  directory_collides other = rw (more, other)
