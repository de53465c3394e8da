-- Sound bytes, and those that can be restored, by what they are.
use Rattle.base.{specs.Base.{ℕ, ◌≡◌, true, false, List, any, open_used}, proofs.Laws.{and_left, and_right, not-true}}
use Rattle.audit.specs.Sound.{sound_bytes}
use Rattle.consistency.{specs.Consistent.Consistent, proofs.Equivalence.consistent_iff}
use Rattle.image.specs.Image.{restorable}
use Rattle.layout.specs.Layout.{decode, stands_for_tables}

pub sound_stands : (bs : List ℕ) → sound_bytes bs ≡ true → stands_for_tables bs ≡ true
unfolding sound_bytes
sound_stands bs s = and_left (stands_for_tables bs) _ s

pub sound_consistent : (bs : List ℕ) → sound_bytes bs ≡ true → Consistent (decode bs).volume (decode bs).opens
unfolding sound_bytes
sound_consistent bs s =
    (consistent_iff (decode bs).volume (decode bs).opens).0 (and_right (stands_for_tables bs) _ s)

pub restorable_sound : (bs : List ℕ) → restorable bs ≡ true → sound_bytes bs ≡ true
unfolding restorable
restorable_sound bs ok = and_left (sound_bytes bs) _ ok

pub restorable_unopened : (bs : List ℕ) → restorable bs ≡ true → any open_used (decode bs).opens.rows ≡ false
unfolding restorable
restorable_unopened bs ok = not-true _ (and_right (sound_bytes bs) _ ok)
