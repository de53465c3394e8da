-- The access rule.
use Rattle.std.specs.Prelude.{◌&&◌, ◌||◌}
use Rattle.base.specs.Base.{ℕ, cond, not, eqb, within, has, without, read_only, maximum_allowed, is_data, mask_of, Option, none, some, Checked, some_or, AccessDenied, File}

-- effective: the account's mask on the file, less 0x6 for a data file with attribute 0x1
unfoldable pub effective : File → ℕ → ℕ
effective f account =
    cond (is_data f.file_type && has f.attributes read_only) (without (mask_of f account) 0x6) (mask_of f account)

-- need: the access less 0x02000000
unfoldable pub need : ℕ → ℕ
need access = without access maximum_allowed

-- the rule over an effective mask: what is granted, if anything
unfoldable pub access_from : ℕ → ℕ → Option ℕ
access_from mask access =
    cond (not (within (need access) mask) || eqb mask 0) none
    (some (cond (has access maximum_allowed) mask (need access)))

unfoldable pub access_rule : File → ℕ → ℕ → Option ℕ
access_rule f account access = access_from (effective f account) access

-- the rule as a step of an open
unfoldable pub checked_access : Option ℕ → Checked ℕ
checked_access granted = some_or AccessDenied granted
