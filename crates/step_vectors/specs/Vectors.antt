-- The step cases (store/specs/StepCases) as lines of the script: of each case that calls alone lead to, on a fresh writable
-- volume with masks 0x1F01FF, the lines of its calls and what the last one prints.
use Rattle.std.specs.Prelude.{◌&&◌, ◌≡◌, ◌∷◌, ◌++◌}
use Rattle.base.specs.Base.{ℕ, zero, suc, Bool, true, false, cond, not, List, [], Option, none, some, eqb, get_or, all, replicate, same}
use Rattle.script_lines.specs.{Evaluate.computes as script, Lines.{◌>>=◌, is_ascii, space}, Print.{decimal_digits, line_end, printed}, Script.answered}
use Rattle.store.specs.{Calls.{Call, opens, closes, sets_read_only, model_step}, Evaluate.model_run, Model.{Model, fresh_model}, StepCases.Form.{Case, Start, refuses, accepts, does, leaves, replies, becomes, refuses_format, formats, kept, started, expected, equal, equal_rows}}

-- numbers, with a space after each
unfoldable pub fields : List ℕ → List ℕ
fields [] = []
fields (n ∷ ns) = decimal_digits n ++ space ∷ fields ns

-- a unit that may stand in a line
unfoldable pub in_line : ℕ → Bool
in_line unit = is_ascii unit && not (eqb unit line_end)

-- a call's line; a script cannot set the mark
unfoldable pub call_line : Call → Option (List ℕ)
call_line (opens r path) =
    let numbers =
    r.account
    ∷ r.access
    ∷ r.share
    ∷ r.disposition
    ∷ r.options
    ∷ r.attributes
    ∷ cond r.fold 1 0
    ∷ []
    in
    cond (all in_line path) (some (0x4F ∷ space ∷ fields numbers ++ path)) none
call_line (closes h) = some (0x43 ∷ space ∷ decimal_digits h.0)
call_line (sets_read_only b) = none

unfoldable pub call_lines : List Call → Option (List (List ℕ))
call_lines [] = some []
call_lines (c ∷ cs) = do
  line ← call_line c
  lines ← call_lines cs
  some (line ∷ lines)

abbrev pub full_masks : List ℕ
full_masks = replicate 8 0x1F01FF

-- calls alone lead there, from the volume of a script
unfoldable pub by_calls : Start → Bool
by_calls s =
    equal s.masks full_masks && equal_rows (kept (started s)) (kept (model_run s.masks false s.calls).state)

unfoldable pub lines_from : Start → Call → Option (List (List ℕ))
lines_from s c = cond (by_calls s) (call_lines (s.calls ++ c ∷ [])) none

-- the lines of a case; a script cannot format
unfoldable pub case_lines : Case → Option (List (List ℕ))
case_lines (refuses s c status) = lines_from s c
case_lines (accepts s c action ms streams entries) = lines_from s c
case_lines (does s c mark ms streams entries) = lines_from s c
case_lines (leaves s c reply f) = lines_from s c
case_lines (replies s c reply) = lines_from s c
case_lines (becomes s c reply m) = lines_from s c
case_lines (refuses_format s masks mark status) = none
case_lines (formats s masks mark) = none

-- what is printed of the reply that a case says: a row of the status, one more than the action or 0, the handle and the
-- access granted
unfoldable pub action_of : ℕ → Option ℕ
action_of zero = none
action_of (suc action) = some action

unfoldable pub row_printed : List ℕ → List ℕ
row_printed row =
    printed
    (record {
      status = get_or row 0 0;
      action = action_of (get_or row 1 0);
      handle = get_or row 2 0;
      granted = get_or row 3 0;
    })

unfoldable pub case_printed : Case → List ℕ
case_printed c = row_printed (get_or (expected c) 0 [])

-- lines with their line ends
unfoldable pub joined : List (List ℕ) → List ℕ
joined [] = []
joined (line ∷ lines) = line ++ line_end ∷ joined lines

-- `=` where a case begins, its lines, and `>` with what the last one prints; nothing of a case that is no script's
unfoldable pub vector : Case → List ℕ
vector c =
    elim (case_lines c) [ none ↦ [] | some lines ↦ 0x3D ∷ line_end ∷ joined lines ++ 0x3E ∷ case_printed c ]

unfoldable pub vectors : List Case → List ℕ
vectors [] = []
vectors (c ∷ cs) = vector c ++ vectors cs

-- what the last of some lines prints on the model
unfoldable pub last_printed : Model → List ℕ → List (List ℕ) → List ℕ
last_printed m last [] = last
last_printed m last (line ∷ lines) = let now = answered model_step m line in last_printed now.state now.bytes lines

-- the lines of a case print it on the model, from a fresh volume on
unfoldable pub answers : Case → Bool
answers c =
    elim (case_lines c)
    [ none ↦ true | some lines ↦ same (last_printed (fresh_model full_masks false) [] lines) (case_printed c) ]

abbrev pub Answered : List Case → Type 0
Answered cases = all answers cases ≡ true

-- what evaluation unfolds
unfoldable pub computes : Unit {0}
unfolding script expected equal equal_rows fields in_line call_line call_lines by_calls lines_from case_lines action_of
    row_printed case_printed joined vector vectors last_printed answers
computes = tt
