-- A name is empty exactly where its first place is zero.
use Rattle.base.{specs.Base.{Bool, true, false, cond, ◌≡◌, eqb}, proofs.Laws.{refl, ◌∙◌}}
use mir.Val.{bool_byte}
use Rattle.stored_names.proofs.StoredUnits.{units_empty}
use Rattle.audit_streams.proofs.one_if_unnamed.Goals as goal

one_where : (b : Bool) → bool_byte b ≡ cond b 1 0
one_where true = refl
one_where false = refl

pub returns : goal.returns
returns c =
    rw (units_empty c.args.name.now, ← c.unit_at.ensures) (c.from.ensures ∙ one_where (eqb c.unit_at.result 0))
