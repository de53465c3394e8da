-- What a call does: a reply, and the state after it.
use Rattle.std.specs.Prelude.{◌≡◌}
use Rattle.records.specs.{Numbers.{Reply, seen, refused_reply, done_reply}, Checked.{Checked, refused, passed}, declared.{OpenTable.OpenTable, Volume.Volume, Answer.Answer}}

-- the object store's state
pub record Tables : Type 0 where
  pub volume : Volume
  pub opens : OpenTable

pub record Step (S : Type 0) : Type 0 where
  pub reply : Reply
  pub state : S

-- format, close and set_read_only succeed with no action and zeros
abbrev pub done : {S : Type 0} → S → Step S
done s = record { reply = done_reply; state = s }

-- a refusal returns its status, no action, handle 0 and granted 0, and changes nothing
unfoldable pub concluded : {S : Type 0} → S → Checked (Step S) → Step S
concluded s (refused r) = record { reply = refused_reply r.status; state = s }
concluded s (passed next) = next

-- an answer of the code is a step: the caller sees the same, and the state after it is the same
pub record Answers {S : Type 0} (a : Answer) (after : S) (s : Step S) : Type 0 where
  pub reply : seen (record { outcome = a.outcome; granted = a.granted }) ≡ seen s.reply
  pub state : after ≡ s.state
