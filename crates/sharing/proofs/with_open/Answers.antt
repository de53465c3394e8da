-- Each field is the sum with what the open adds.
use Rattle.base.{specs.Base.{◌≡◌, count}, proofs.Laws.{◌∙◌, arith}}
use Rattle.std.proofs.Common.{rules}
use Rattle.sharing.specs.{Saturating.{count_limit, plus_up_to, with_open_up_to}, Sharing.{counts_of_all, holders, sharers, changed_by}}
use Rattle.sharing.proofs.Combining.{each_by, combined_by}
use Rattle.sharing.proofs.with_open.Goals as goal

pub returns : goal.returns
unfolding count counts_of_all holders sharers changed_by with_open_up_to plus_up_to
returns c =
    combined_by (plus_up_to count_limit) (λ x y r h. search rules) c.args.c c.counts_of_one-one.result c.combined.result c.combined.ensures ∙ rw c.counts_of_one-one.ensures
