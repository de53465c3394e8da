-- The refusals of steps 1 to 3, and how the definition goes on once they refuse nothing: the refusals of steps 4 and 5, or
-- where the path leads.
use Rattle.base.{specs.Base.{ℕ, ◌≡◌, Bool, true, false, ◌&&◌, List, Namespace, Checked, refuse, ◌>>=◌, ◌>>◌, refuse_if, InvalidParameter, AccessDenied, ObjectNameInvalid, MediaWriteProtected, Request}, proofs.Laws.{refl, ◌∙◌}}
use Rattle.lookup.specs.{Lookup.locate, Answers.{leaf_names, locate_parsed}}
use Rattle.paths.specs.{Paths.parse_path, Positions.as_path, declared.ParsedPath.{ParsedPath, TheVariants.{Invalid, Root, Named}}}
use Rattle.store.specs.{Request.{wants_directory, wants_file, bad_parameters, bad_access, wants_both, writes_volume}, Target.{Target, target}}
use Rattle.target.specs.Answers.{target_there}

-- steps 1 to 3, in their order
module _ (ns : Namespace) (r : Request) (path : List ℕ) where
  pub parameters_refused : bad_parameters r ≡ true → target ns r path ≡ refuse InvalidParameter
  unfolding target refuse_if ◌>>◌
  parameters_refused e = rw e

  module _ (parameters : bad_parameters r ≡ false) where
    pub access_refused : bad_access r ≡ true → target ns r path ≡ refuse AccessDenied
    unfolding target refuse_if ◌>>◌
    access_refused e = rw (parameters, e)

    pub types_refused : bad_access r ≡ false → wants_both r ≡ true → target ns r path ≡ refuse InvalidParameter
    unfolding target refuse_if ◌>>◌
    types_refused access e = rw (parameters, access, e)

-- steps 1 to 3 refuse nothing, and the path is taken apart
pub record Reached (r : Request) (path : List ℕ) (parsed : ParsedPath) : Type 0 where
  pub parameters : bad_parameters r ≡ false
  pub access : bad_access r ≡ false
  pub types : wants_both r ≡ false
  pub is : as_path path parsed ≡ parse_path (wants_directory r) (wants_file r) path

-- step 5's test
abbrev pub protected : Namespace → Request → Bool
protected ns r = ns.read_only && writes_volume r

module _ (ns : Namespace) (r : Request) (path : List ℕ) where
  -- what is where the path leads
  abbrev pub target_of : ParsedPath → Checked Target
  target_of parsed = target_there ns r (leaf_names path parsed) (locate_parsed ns r.fold path parsed)

  goes_on : {parsed : ParsedPath} → Reached r path parsed
      → target ns r path
      ≡ (as_path path parsed >>= (λ p. refuse_if (protected ns r) MediaWriteProtected >> target_there ns r p.leaf (locate ns r.fold p)))
  unfolding target refuse_if ◌>>◌
  goes_on h = rw (h.parameters, h.access, h.types, h.is)

  pub path_refused : {parsed : ParsedPath} → Reached r path parsed → parsed ≡ Invalid → target ns r path ≡ refuse ObjectNameInvalid
  unfolding as_path ◌>>=◌
  path_refused h e = goes_on h ∙ rw e

  -- step 4 does not refuse the path
  leads : (parsed : ParsedPath) → Reached r path parsed → (parsed ≡ Invalid → ⊥)
      → target ns r path ≡ (refuse_if (protected ns r) MediaWriteProtected >> target_of parsed)
  unfolding as_path leaf_names locate_parsed ◌>>=◌
  leads Invalid h valid = absurd (valid refl)
  leads Root h valid = goes_on h
  leads (Named l) h valid = goes_on h

  module _ {parsed : ParsedPath} (h : Reached r path parsed) (valid : parsed ≡ Invalid → ⊥) where
    pub path_protected : protected ns r ≡ true → target ns r path ≡ refuse MediaWriteProtected
    unfolding refuse_if ◌>>◌
    path_protected e = leads parsed h valid ∙ rw e

    pub path_leads : protected ns r ≡ false → target ns r path ≡ target_of parsed
    unfolding refuse_if ◌>>◌
    path_leads e = leads parsed h valid ∙ rw e
