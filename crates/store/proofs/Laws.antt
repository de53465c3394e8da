-- Laws of the calls that stand by themselves: a refused call changes nothing, and each call keeps consistent tables
-- consistent and is answered as the model of those tables would answer it.
use Rattle.base.{specs.Base.{◌≤◌, suc, ℕ, Checked, ◌>>=◌, passed, refused, namespace, Step, Tables, concluded, CreateAction, Handle, Done, Refused, Success, Outcome, FileCorruptError, InvalidParameter, Status, Bool, List, ◌⊎◌, inl, inr, ◌≡◌}, proofs.Laws.{perm_refl, Ends, ends_test, goes, stops, went, refl, arith}}
use Prim.Native.Nat.{pred}
use Rattle.consistency.specs.Consistent.{Consistent}
use Rattle.format.specs.Format.{checked_masks, format}
use Rattle.tables.specs.Tables.{live}
use Rattle.store.proofs.Sequences.{Related.Related, Steps.together}
use Rattle.store.specs.{Calls.{Call, closes, model_step, opens, sets_read_only, store_step}, Model.Model, Store.{closed, opened, store_close, store_open, store_set_read_only, when_consistent}}

-- a step that is no refusal
abbrev Accepts : {S : Type 0} → Step S → Type 0
Accepts s = (q : Status) → s.reply.outcome ≡ Refused q → ⊥

-- a refusal leaves the state as it was
concluded_unchanged : {S : Type 0} (s : S) (c : Checked (Step S)) → Ends (λ r. Unit {0}) Accepts c → (q : Status)
    → (concluded s c).reply.outcome ≡ Refused q → (concluded s c).state ≡ s
unfolding concluded
concluded_unchanged s (refused r) h q e = refl
concluded_unchanged s (passed next) h q e = absurd (went h q e)

-- steps that pass or refuse, and then make a step that is none
made : {A S : Type 0} (c : Checked A) (f : A → Step S) → ((a : A) → Accepts (f a)) → Ends (λ r. Unit {0}) Accepts (c >>= (λ a. passed (f a)))
unfolding ◌>>=◌
made (refused r) f h = stops tt
made (passed a) f h = goes (h a)

when_unchanged : (t : Tables) (c : Checked (Step Tables)) → Ends (λ r. Unit {0}) Accepts c → (q : Status)
    → (when_consistent t c).reply.outcome ≡ Refused q → (when_consistent t c).state ≡ t
unfolding when_consistent
when_unchanged t c h = concluded_unchanged t _ (ends_test _ FileCorruptError tt (λ e. h))

not_refused : {a : Outcome} {q : Status} → (a ≡ Done) ⊎ ((x : CreateAction) × (h : Handle) × (a ≡ Success x h)) → a ≡ Refused q → ⊥
not_refused (inl d) e = let z : ◌≡◌ {A = ℕ} 0 1 = cc in omega arith
not_refused (inr s) e = let w = s.2 in let z : ◌≡◌ {A = ℕ} 0 1 = cc in omega arith

-- a refused call changes nothing, whatever the tables hold
pub refused_unchanged : (t : Tables) (c : Call) (s : Status) → (store_step t c).reply.outcome ≡ Refused s → (store_step t c).state ≡ t
unfolding store_step store_open store_close store_set_read_only opened closed
refused_unchanged t (opens r units) = when_unchanged t _ (made _ (opened t) (λ d q. not_refused (inr (d.action, d.handle, refl))))
refused_unchanged t (closes h) = when_unchanged t _ (made _ (closed t) (λ c q. not_refused (inl refl)))
refused_unchanged t (sets_read_only b) = when_unchanged t _ (goes (λ q. not_refused (inl refl)))

pub refused_format : (t : Tables) (masks : List ℕ) (read_only : Bool) (s : Status)
    → (format t masks read_only).reply.outcome ≡ Refused s → (format t masks read_only).state ≡ t
unfolding format checked_masks
refused_format t masks read_only =
    concluded_unchanged t _
    (ends_test _ FileCorruptError tt (λ e. ends_test _ InvalidParameter tt (λ f. goes (λ q. not_refused (inl refl)))))

-- consistent tables as a model: their live opens are its entries
abbrev pub model_of : Tables → Model
model_of t = record { namespace = namespace t.volume; count = pred t.volume.next_handle.0; entries = live t.opens.rows }

above_zero : (n : ℕ) → 1 ≤ n → n ≡ suc (pred n)
above_zero n h = omega arith

model_related : (t : Tables) → Consistent t.volume t.opens → Related t (model_of t)
model_related t ok =
    record {
      consistent_tables = ok;
      opens_are_entries = perm_refl (live t.opens.rows);
      same_namespace = refl;
      next_handle = above_zero t.volume.next_handle.0 ok.opens.next_at_least;
    }

-- each kind of call keeps consistency
pub keeps-consistent : (t : Tables) → Consistent t.volume t.opens → (c : Call)
    → Consistent (store_step t c).state.volume (store_step t c).state.opens
keeps-consistent t ok c = (together (model_related t ok) c).related_after.consistent_tables

-- and is answered as by the model
pub answers_agree : (t : Tables) → Consistent t.volume t.opens → (c : Call) → (store_step t c).reply ≡ (model_step (model_of t) c).reply
answers_agree t ok c = (together (model_related t ok) c).same_reply
