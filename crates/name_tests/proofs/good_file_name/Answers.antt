-- Past the empty name and the dots, the places say all.
use Rattle.base.proofs.Laws.{sym, ◌∙◌}
use Rattle.name_tests.proofs.{Valid.{good_file_length, good_file_empty, good_file_dots, good_file_other}}
use Rattle.name_tests.proofs.good_file_name.Goals as goal

pub returns-then-name-ne-FILE_NAME_LIMIT : goal.returns-then-name-ne-FILE_NAME_LIMIT
returns-then-name-ne-FILE_NAME_LIMIT c = sym (good_file_length c.args.name.now c.if-name-ne-FILE_NAME_LIMIT.true)

pub returns-then-name-eq0 : goal.returns-then-name-eq0
returns-then-name-eq0 c = sym (good_file_empty c.args.name.now c.if-name-eq0.true)

pub returns-then-is_dots : goal.returns-then-is_dots
returns-then-is_dots c =
    sym (good_file_dots c.args.name.now (sym c.is_dots.ensures ∙ c.if-is_dots.true))

pub returns : goal.returns
returns c =
    rw (c.well_stored.ensures, c.zeros_or_valid.ensures)
    (good_file_other c.args.name.now c.if-name-ne-FILE_NAME_LIMIT.false c.if-name-eq0.false (sym c.is_dots.ensures ∙ c.if-is_dots.false))
