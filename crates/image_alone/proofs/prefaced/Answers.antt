-- Only the header has a preface.
use Rattle.base.{specs.Base.{same}, proofs.Laws.{⊎_elim, arith}}
use Rattle.image.specs.{Blocks.{preface}}
use Rattle.image_alone.proofs.{Formed.header_preface}
use Rattle.image_alone.proofs.prefaced.Goals as goal

pub returns-in-Header : goal.returns-in-Header
returns-in-Header c =
    rw (
      c.in-Header.is,
      header_preface c.args.block.now (omega arith) (λ i. omega (arith, c.fits-block i)),
      ← c.read_u16.ensures,
      ← c.read_u16-in-Header.ensures,
      ← c.read_u16-in-Header-2.ensures,
      ← c.read_u16-in-Header-3.ensures,
    )

-- the other records have none
pub returns-in-FileSlot : goal.returns-in-FileSlot
unfolding preface same
returns-in-FileSlot c = ⊎_elim (λ e. rw e.1) (⊎_elim (λ e. rw e.1) (⊎_elim (λ e. rw e.1) (λ e. rw e))) c.in-FileSlot.is
