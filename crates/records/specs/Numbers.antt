-- The paper's number, and the values beside it, for every case of an answer (document 01, "Statuses given").
use Rattle.std.specs.Prelude.{ℕ}
use Rattle.std.proofs.Math.Option.{Option, none, some}
use Rattle.records.specs.declared.{CreateAction.{CreateAction, TheVariants.{Superseded, Opened, Created, Overwritten}}, Status.{Status, TheVariants.{FileCorruptError, InvalidParameter, AccessDenied, ObjectNameInvalid, MediaWriteProtected, ObjectPathNotFound, ObjectNameNotFound, ObjectNameCollision, FileIsADirectory, NotADirectory, SharingViolation, DiskFull, TooManyOpenedFiles, InsufficientResources, InvalidHandle, CannotDelete, DeletePending}}, Outcome.{Outcome, TheVariants.{Success, Done, Refused}}}

unfoldable pub status_number : Status → ℕ
status_number FileCorruptError = 0xC0000102
status_number InvalidParameter = 0xC000000D
status_number AccessDenied = 0xC0000022
status_number ObjectNameInvalid = 0xC0000033
status_number MediaWriteProtected = 0xC00000A2
status_number ObjectPathNotFound = 0xC000003A
status_number ObjectNameNotFound = 0xC0000034
status_number ObjectNameCollision = 0xC0000035
status_number FileIsADirectory = 0xC00000BA
status_number NotADirectory = 0xC0000103
status_number SharingViolation = 0xC0000043
status_number DiskFull = 0xC000007F
status_number TooManyOpenedFiles = 0xC000011F
status_number InsufficientResources = 0xC000009A
status_number InvalidHandle = 0xC0000008
status_number CannotDelete = 0xC0000121
status_number DeletePending = 0xC0000056

unfoldable pub action_number : CreateAction → ℕ
action_number Superseded = 0
action_number Opened = 1
action_number Created = 2
action_number Overwritten = 3

-- a call's reply: how it ended, and the access granted
pub record Reply : Type 0 where
  pub outcome : Outcome
  pub granted : ℕ

-- what a caller sees of a reply
pub record Seen : Type 0 where
  pub status : ℕ
  pub action : Option ℕ
  pub handle : ℕ
  pub granted : ℕ

-- success is 0; a refusal returns its number, no action and handle 0
unfoldable pub seen : Reply → Seen
seen r =
    elim r.outcome [
      | Success a h ↦ record { status = 0; action = some (action_number a); handle = h.0; granted = r.granted }
      | Done ↦ record { status = 0; action = none; handle = 0; granted = r.granted }
      | Refused s ↦ record { status = status_number s; action = none; handle = 0; granted = r.granted }
    ]

-- the reply of a refusal, and that of a call that is done without an action: granted 0
abbrev pub refused_reply : Status → Reply
refused_reply s = record { outcome = Refused s; granted = 0 }

abbrev pub done_reply : Reply
done_reply = record { outcome = Done; granted = 0 }
