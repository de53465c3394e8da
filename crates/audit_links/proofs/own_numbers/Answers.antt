use Rattle.base.{proofs.Laws.{rules}}
use Rattle.audit_links.proofs.own_numbers.Goals as goal

pub returns : goal.returns
returns c n b = let call = (c.from_fn.ensures.items.at n 0 b).2 in search rules
