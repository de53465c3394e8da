-- An answer in numbers, for callers that have no enums.
use Rattle.base.specs.Base.{ℕ, Option, none, some, Answer, Seen, seen}

-- what a caller sees of an answer
abbrev pub answer_seen : Answer → Seen
answer_seen a = seen (record { outcome = a.outcome; granted = a.granted })

-- an action's number, and the number that says that there is none
abbrev pub no_action : ℕ
no_action = 0xFFFFFFFF

unfoldable pub action_or : Option ℕ → ℕ
action_or none = no_action
action_or (some a) = a
