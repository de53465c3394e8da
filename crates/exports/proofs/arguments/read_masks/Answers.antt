-- Eight numbers of 4 bytes, or none.
use Rattle.base.proofs.Laws.{refl, rules}
use Rattle.exports.proofs.Read.{no_masks, masks_read}
use Rattle.exports.proofs.arguments.read_masks.Goals as goal

pub returns-then-bytes : goal.returns-then-bytes
returns-then-bytes c = no_masks _ _ refl c.if-bytes.true

pub returns : goal.returns
returns c = masks_read _ _ c.if-bytes.false c.read_words.ensures
