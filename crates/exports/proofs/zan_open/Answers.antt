-- The call's, with the path that the bytes are and its answer in numbers.
use Rattle.base.proofs.Laws.{refl, rules, arith, length-take}
use Rattle.exports.proofs.Returned.{open_returned}
use Rattle.exports.proofs.zan_open.Goals as goal

-- the units lie within their array
pub slice_bounds-units-end : goal.slice_bounds-units-end
slice_bounds-units-end c = let p = c.read_path-read.ensures in omega (arith, p.within, p.long)

pub returns : goal.returns
returns c =
    let read = c.read_path-read in
    open_returned _ read.ensures c.open-answer.ensures c.status_of.ensures
    c.action_of.ensures refl c.handle_of.ensures
