-- Past the last mask an element is the default.
use Rattle.base.proofs.Laws.{sym, arith, get_or_default}
use Rattle.format.proofs.mask_at.Goals as goal

pub returns-else-account-masks : goal.returns-else-account-masks
returns-else-account-masks c = sym (get_or_default c.args.masks.now 0 (omega arith))
