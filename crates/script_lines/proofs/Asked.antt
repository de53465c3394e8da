-- A line that asks something is short enough that its whole path is copied.
use Rattle.std.specs.Prelude.{Some}
use Rattle.base.{specs.Base.{ℕ, ◌≤◌, ◌≡◌, List, some, length, leb, take, drop, Request}, proofs.Laws.{sym, arith, by_cases, none≢some, length-drop, take_all}}
use borrow.Author.Tests.{leb-true}
use Rattle.store.specs.Calls.{Call}
use Rattle.script_lines.specs.{Lines.{line_limit, parse_line}, Found.as_call, declared.AskedLine.TheVariants.Open}

-- a line that asks something is no longer than the limit
pub asked_fits : (line : List ℕ) (call : Call) → parse_line line ≡ some call → length line ≤ line_limit
unfolding parse_line
asked_fits line call e =
    by_cases (leb (length line) line_limit) (λ h. leb-true (length line) line_limit h)
    (λ h. absurd (none≢some (rw h at e)))

-- so its whole path is copied
pub path_fits : (line : List ℕ) (r : Request) (at : ℕ) → as_call line (Some (Open r at)) ≡ parse_line line
    → take line_limit (drop at line) ≡ drop at line
unfolding as_call
path_fits line r at e =
    let k = asked_fits line _ (sym e) in
    let d = length-drop at line in
    take_all line_limit (drop at line) (omega arith)
