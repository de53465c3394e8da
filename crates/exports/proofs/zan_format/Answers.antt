-- Format's, with the masks that the bytes are and its status in a number.
use Rattle.base.{specs.Base.length, proofs.Laws.{rules, arith, length-take}}
use Rattle.exports.proofs.Returned.{format_returned}
use Rattle.exports.proofs.zan_format.Goals as goal

-- the masks lie within their array
pub slice_bounds-words-end : goal.slice_bounds-words-end
slice_bounds-words-end c = let m = c.read_masks-read.ensures in omega (arith, m.within, m.long)

pub returns : goal.returns
returns c =
    format_returned _ _ c.read_masks-read.ensures
    c.format-answer.ensures c.status_of.ensures
