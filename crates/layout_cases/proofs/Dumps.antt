-- The dumps hold, by evaluation of the definitions.
use Rattle.base.proofs.Laws.{refl}
use Rattle.image.specs.Evaluate.{computes as image}
use Rattle.layout.specs.Evaluate.{computes as layout}
use Rattle.store.specs.Evaluate.{computes, store_run}
use Rattle.layout_cases.specs.Dumps.{dump_rows, dump, dump_blocks, fresh_dump, created_dump, image_dump, DumpsHold, ImageDumpHolds}

pub dumps_hold : DumpsHold
unfolding layout computes store_run dump_rows dump fresh_dump created_dump
dumps_hold = record { fresh = refl; created = refl }

pub image_dump_holds : ImageDumpHolds
unfolding layout image computes store_run dump_rows dump_blocks image_dump
image_dump_holds = record { image = refl }
