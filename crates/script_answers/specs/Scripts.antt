-- A whole script on lent bytes: the statement about every list of lines from a format that succeeded.
use Rattle.std.specs.Prelude.{◌≡◌, ◌∷◌, ◌++◌}
use Rattle.base.specs.Base.{ℕ, Bool, List, [], take, Answers, Answer, Done}
use Rattle.format.specs.Bytes.{format_bytes}
use Rattle.script_lines.specs.{Script.script, declared.buffers.Printed.Printed}
use Rattle.store.specs.{Model.{Model, model_format}, Calls.model_step}
use Rattle.script_answers.specs.Answers.{AnswersLine}

-- lines answered one after another, each on the bytes that the last one left: the bytes before, the lines, all that was
-- printed, the bytes after
pub data LinesAnswered : List ℕ → List (List ℕ) → List ℕ → List ℕ → Type 0 where
  no_line : {bytes : List ℕ} → LinesAnswered bytes [] [] bytes
  next_line : {before between after line later : List ℕ} {lines : List (List ℕ)} {x : Printed}
      → AnswersLine line x before between → LinesAnswered between lines later after
      → LinesAnswered before (line ∷ lines) (take x.count x.bytes ++ later) after

-- whatever the bytes and the model held before, and whatever the lines are: if format answered that it is done, the
-- lines print what they print on the model
abbrev pub EveryScript : Type 0
EveryScript =
    (bytes : List ℕ) (m : Model) (masks : List ℕ) (read_only : Bool) (a : Answer) (formatted : List ℕ)
    → Answers a formatted (format_bytes bytes masks read_only)
    → a.outcome ≡ Done
    → (lines : List (List ℕ)) (text after : List ℕ)
    → LinesAnswered formatted lines text after
    → text ≡ script model_step (model_format m masks read_only).state lines
