-- The empty name is all zero, and of any other the places say all.
use Rattle.base.proofs.Laws.{sym, ◌∙◌}
use Rattle.name_tests.proofs.{Valid.{good_stream_length, good_stream_empty, good_stream_other}}
use Rattle.name_tests.proofs.good_stream_name.Goals as goal

pub returns-then-name-ne-STREAM_NAME_LIMIT : goal.returns-then-name-ne-STREAM_NAME_LIMIT
returns-then-name-ne-STREAM_NAME_LIMIT c = sym (good_stream_length c.args.name.now c.if-name-ne-STREAM_NAME_LIMIT.true)

pub returns-then-name-ne0 : goal.returns-then-name-ne0
returns-then-name-ne0 c =
    rw (c.well_stored.ensures, c.zeros_or_valid.ensures) (good_stream_other c.args.name.now c.if-name-ne-STREAM_NAME_LIMIT.false)

pub returns : goal.returns
returns c =
    c.zero_name.ensures ∙ good_stream_empty c.args.name.now c.if-name-ne-STREAM_NAME_LIMIT.false c.if-name-ne0.false
