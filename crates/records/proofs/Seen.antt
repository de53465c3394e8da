-- What a caller sees of a reply.
use Prim.Native.Nat.{ℕ}
use mathlib.Core.Path.{◌≡◌, refl}
use Rattle.records.specs.{declared.Outcome.{Outcome, TheVariants.{Success, Done, Refused}}, Numbers.seen}

-- the access granted is seen as the reply has it, of a refusal too: nothing hides that one is not 0
pub seen_granted : (o : Outcome) (g : ℕ) → (seen (record { outcome = o; granted = g })).granted ≡ g
unfolding seen
seen_granted (Success a h) g = refl
seen_granted Done g = refl
seen_granted (Refused s) g = refl
