-- The tests are the cases.
use Rattle.base.proofs.Laws.{arith, sym}
use Rattle.image.proofs.{Records.{header_record, file_record, link_record, stream_record, past_record}}
use Rattle.image.proofs.record_of.Goals as goal

pub returns-then-n-eq0 : goal.returns-then-n-eq0
returns-then-n-eq0 c = sym (header_record _ c.if-n-eq0.true)

pub returns-then-n-le-FILE_SLOTS : goal.returns-then-n-le-FILE_SLOTS
returns-then-n-le-FILE_SLOTS c = sym (file_record _ (omega arith) (omega arith))

pub returns-then-n : goal.returns-then-n
returns-then-n c = sym (link_record _ (omega arith) (omega arith))

pub returns-then-n-lt-IMAGE_BLOCKS : goal.returns-then-n-lt-IMAGE_BLOCKS
returns-then-n-lt-IMAGE_BLOCKS c = sym (stream_record _ (omega arith) (omega arith))

pub returns : goal.returns
returns c = sym (past_record _ (omega arith))
