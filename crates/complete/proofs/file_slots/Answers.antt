-- The searches in the definition's order.
use native.Mathlib.Numerals.{add-one}
use Rattle.std.proofs.lemmas.Result.{err_from_is_err_and}
use Rattle.base.specs.Base.{as_checked, ◌>>=◌}
use Rattle.complete.specs.Placing.{opened_slot, file_slots}
use Rattle.complete.proofs.file_slots.Goals as goal

pub returns-in_err-file : goal.returns-in_err-file
unfolding file_slots opened_slot as_checked ◌>>=◌
returns-in_err-file c =
    let q = err_from_is_err_and c.from_residual.result c.from_residual.ensures.1 in
    rw (q.1, q.2, ← c.in_err-file.ensures)

pub returns-in_err-link : goal.returns-in_err-link
unfolding file_slots opened_slot as_checked ◌>>=◌
returns-in_err-link c =
    let q = err_from_is_err_and c.from_residual-in_err-link.result c.from_residual-in_err-link.ensures.1 in
    rw (q.1, q.2, ← c.in_ok-file.ensures, ← c.in_err-link.ensures)

pub returns-in_err-unnamed : goal.returns-in_err-unnamed
unfolding file_slots opened_slot as_checked ◌>>=◌
returns-in_err-unnamed c =
    let q = err_from_is_err_and c.from_residual-in_err-unnamed.result c.from_residual-in_err-unnamed.ensures.1 in
    rw (q.1, q.2, ← c.in_ok-file.ensures, ← c.in_ok-link.ensures, ← c.in_err-unnamed.ensures)

pub returns-in_err-opened : goal.returns-in_err-opened
unfolding file_slots opened_slot as_checked ◌>>=◌
returns-in_err-opened c =
    let q = err_from_is_err_and c.from_residual-in_err-opened.result c.from_residual-in_err-opened.ensures.1 in
    rw (q.1, q.2, ← c.in_ok-file.ensures, ← c.in_ok-link.ensures, ← c.in_ok-unnamed.ensures, c.if-named.true, ← add-one, ← c.in_err-opened.ensures)

pub returns-in_ok-opened : goal.returns-in_ok-opened
unfolding file_slots opened_slot as_checked ◌>>=◌
returns-in_ok-opened c =
    rw (← c.in_ok-file.ensures, ← c.in_ok-link.ensures, ← c.in_ok-unnamed.ensures, c.if-named.true, ← add-one, ← c.in_ok-opened.ensures)

pub returns-else-named : goal.returns-else-named
unfolding file_slots opened_slot as_checked ◌>>=◌
returns-else-named c =
    rw (← c.in_ok-file.ensures, ← c.in_ok-link.ensures, ← c.in_ok-unnamed.ensures, c.if-named.false)
