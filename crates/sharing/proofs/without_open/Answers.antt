-- Each field is the difference with what the open adds.
use Rattle.base.{specs.Base.{◌≡◌, ◌-◌, count}, proofs.Laws.{◌∙◌, arith}}
use Rattle.std.proofs.Common.{rules}
use Rattle.sharing.specs.Sharing.{counts_of_all, holders, sharers, changed_by, without_open}
use Rattle.sharing.proofs.Combining.{each_by, combined_by}
use Rattle.sharing.proofs.without_open.Goals as goal

pub returns : goal.returns
unfolding count counts_of_all holders sharers changed_by without_open
returns c =
    combined_by (λ a b. a - b) (λ x y r h. search rules) c.args.c c.counts_of_one-one.result c.combined.result c.combined.ensures ∙ rw c.counts_of_one-one.ensures
