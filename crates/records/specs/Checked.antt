-- A value, or why a step refuses. With these operators a `do` block reads as the paper's steps: the first refusal ends it.
use mathlib.Core.{Bool.{Bool, true, false}, Option.{Option, none, some}}
use Rattle.std.specs.Prelude as code
use Rattle.records.specs.declared.Status.{Status}

-- what a refusal tells
pub record Refusal : Type 0 where
  pub status : Status

pub data Checked (A : Type 0) : Type 0 where
  refused : Refusal → Checked A
  passed : A → Checked A

-- a refusal that tells its status and nothing else
abbrev pub refuse : {A : Type 0} → Status → Checked A
refuse s = refused (record { status = s })

infixl 10 ◌>>=◌ ◌>>◌
unfoldable pub ◌>>=◌ : {A B : Type 0} → Checked A → (A → Checked B) → Checked B
refused r >>= f = refused r
passed a >>= f = f a

unfoldable pub ◌>>◌ : {A B : Type 0} → Checked A → Checked B → Checked B
refused r >> b = refused r
passed a >> b = b

unfoldable pub refuse_if : Bool → Status → Checked (Unit {0})
refuse_if true s = refuse s
refuse_if false s = passed tt

-- a value that is there, or a refusal
unfoldable pub some_or : {A : Type 0} → Status → Option A → Checked A
some_or s none = refuse s
some_or s (some a) = passed a

-- the code's options and results, as the definitions have them
unfoldable pub as_option : {A : Type 0} → code.Option A → Option A
as_option code.None = none
as_option (code.Some a) = some a

unfoldable pub as_checked : {A B : Type 0} → (A → B) → code.Result A Status → Checked B
as_checked f (code.Ok a) = passed (f a)
as_checked f (code.Err s) = refuse s
