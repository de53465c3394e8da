-- The number of the next block, then the audit, then the opens.
use Rattle.base.{specs.Base.{refuse_if, ◌>>◌}, proofs.Laws.{eq-eqb, ne_eqb, by_cases}}
use Rattle.image.specs.Image.{restorable, checked_image}
use Rattle.image_read.proofs.is_checked.Goals as goal

pub returns-then-reader-ne-IMAGE_BLOCKS : goal.returns-then-reader-ne-IMAGE_BLOCKS
unfolding checked_image refuse_if ◌>>◌
returns-then-reader-ne-IMAGE_BLOCKS c = rw (ne_eqb _ _ c.if-reader-ne-IMAGE_BLOCKS.true)

pub returns-then-not-audit : goal.returns-then-not-audit
unfolding checked_image restorable refuse_if ◌>>◌
returns-then-not-audit c = rw (eq-eqb _ _ c.if-reader-ne-IMAGE_BLOCKS.false, ← c.audit.ensures, c.if-not-audit.true)

pub returns : goal.returns
unfolding checked_image restorable refuse_if ◌>>◌
returns c =
    rw (eq-eqb _ _ c.if-reader-ne-IMAGE_BLOCKS.false, ← c.audit.ensures, c.if-not-audit.false, ← c.has_opens.ensures)
    (by_cases c.has_opens.result (λ e. rw e) (λ e. rw e))
