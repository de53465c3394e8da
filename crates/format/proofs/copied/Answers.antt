use Rattle.base.{specs.Base.{accounts}, proofs.Laws.{sym, ◌∙◌, arith, copied_none, copied_next, copied_all}}
use Rattle.stored_names.proofs.Padded.{places_count, places_at}
use Rattle.format.proofs.copied.Goals as goal

pub loop-account-init : goal.loop-account-init
loop-account-init c = copied_none (sym (places_count accounts c.args.masks.now))

pub loop-account-preserved : goal.loop-account-preserved
loop-account-preserved c =
    let at = c.loop-account in
    let masks = c.args.masks.now in
    let k = places_count accounts masks in
    copied_next 0 _ at.invariant (omega arith) (c.mask_at.ensures ∙ sym (places_at accounts masks at.account (omega arith)))

pub returns : goal.returns
returns c =
    let k = places_count accounts c.args.masks.now in
    copied_all c.loop-account.invariant (omega arith)
