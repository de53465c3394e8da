-- An open leaves the table: its slot is free again.
use Rattle.base.{specs.Base.{ℕ, ◌<◌, ◌≡◌, true, List, ◌∷◌, length, set, Permutation, zero_open, open_used, BareStream, Open}, proofs.Laws.{refl, false≢true, arith, keep_set_gone}}
use Rattle.consistency.specs.Consistent.{open_at, OpensConsistent, NoConflicts}
use Rattle.tables.specs.Tables.{live}
use Rattle.store.proofs.Sequences.Opens.Table.{replaced, conflicts-set}

pub left : {ss : List BareStream} {next : ℕ} {os : List Open} → OpensConsistent ss next os → (i : ℕ)
    → OpensConsistent ss next (set os i zero_open)
unfolding open_used
left c i = replaced c (omega arith) i zero_open (λ u. refl) (λ u. absurd (false≢true u)) (λ j u. absurd (false≢true u))

pub conflicts-left : (os : List Open) → NoConflicts os → (i : ℕ) → NoConflicts (set os i zero_open)
unfolding open_used
conflicts-left os n i = conflicts-set os n i zero_open (λ j u. absurd (false≢true u))

pub left-live : (os : List Open) (i : ℕ) → i < length os → open_used (open_at os i) ≡ true
    → Permutation (live os) (open_at os i ∷ live (set os i zero_open))
unfolding live open_used
left-live os i b u = keep_set_gone open_used zero_open os i zero_open b u refl
