-- A script over any machine that answers calls: what its lines print, one after the other.
use Rattle.std.specs.Prelude.{◌∷◌, ◌++◌}
use Rattle.base.specs.Base.{ℕ, List, [], Option, none, some, Step, seen}
use Rattle.store.specs.Calls.{Call}
use Rattle.script_lines.specs.{Lines.parse_line, Print.{printed, unknown_line}}

-- what a line prints, and the state after it
pub record Answered (S : Type 0) : Type 0 where
  pub bytes : List ℕ
  pub state : S

module _ {S : Type 0} (step : S → Call → Step S) where
  -- a line that asks nothing changes nothing
  unfoldable pub performed : S → Option Call → Answered S
  performed s none = record { bytes = unknown_line; state = s }
  performed s (some call) = let next = step s call in record { bytes = printed (seen next.reply); state = next.state }

  unfoldable pub answered : S → List ℕ → Answered S
  answered s line = performed s (parse_line line)

  unfoldable pub script : S → List (List ℕ) → List ℕ
  script s [] = []
  script s (line ∷ lines) = let now = answered s line in now.bytes ++ script now.state lines
