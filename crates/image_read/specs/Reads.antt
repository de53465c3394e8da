-- What the functions that read the image answer.
use Rattle.base.specs.Base.{Bool, cond, Checked, passed, refuse, Step, refused_reply, FileCorruptError}

-- the outcome of steps that refuse a corrupt image, by whether they passed
abbrev pub or_corrupt : {A : Type 0} → Bool → A → Checked A
or_corrupt ok a = cond ok (passed a) (refuse FileCorruptError)

-- a call that is refused, and what it leaves
abbrev pub corrupt : {S : Type 0} → S → Step S
corrupt after = record { reply = refused_reply FileCorruptError; state = after }
