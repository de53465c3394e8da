-- Demand 3: every sequence of calls from a freshly formatted volume (store/specs/Sequences.antt has the statement).
use Rattle.base.{specs.Base.{◌<◌, suc, zero, ℕ, all, any, keep, nil, pairs, ◌>>◌, passed, refuse_if, Reply, open_used, zero_open, Step, Tables, concluded, Done, Refused, FileCorruptError, InvalidParameter, Status, StreamNo, eqb, length, Bool, ◌||◌, false, not, true, List, [], ◌∷◌, inl, inr, ◌≡◌, done}, proofs.Laws.{and_both, not_is, perm_pairs, ne_eqb, ◌∙◌, ap, ap₂, refl, subst, subst₂, sym, arith}}
use Rattle.consistency.{proofs.{Opens.{agree_iff, agree_swap}, Slots.two_iff}, specs.{Good.{OpensAgree, opens_agree}, Relations.valid_masks}}
use Rattle.format.{proofs.Fresh.fresh-consistent, specs.Format.{checked_masks, format, fresh_tables, fresh_volume, right_lengths}}
use Rattle.sharing.{proofs.Counts.counts_perm, specs.Sharing.counts_of}
use Rattle.tables.specs.Tables.{stream_at, live}
use Rattle.store.proofs.Sequences.{Related.Related, Steps.{Issues, Together, together}, Violation.{from-check, share_right, violation}}
use Rattle.store.specs.{Calls.{Call, Run, model_step, run, store_step}, Model.{Model, fresh_model, model_format}, Sequences.{Agree, EverySequence, handle_of, is_corrupt, issued, numbers_from}}

pub refused≢done : {s : Status} → Refused s ≡ Done → ⊥
refused≢done e = let z : ◌≡◌ {A = ℕ} 0 1 = cc in omega arith

-- what a run from related states gives: the same replies, related states, none of them FILE_CORRUPT_ERROR, and handles
-- in order from the count on
pub record Ran (m : Model) (s : Run Tables) (r : Run Model) : Type 0 where
  pub same_replies : s.replies ≡ r.replies
  pub related_after : Related s.state r.state
  pub never_corrupt : any is_corrupt r.replies ≡ false
  pub handles_in_order : issued r.replies ≡ numbers_from (suc m.count) (length (issued r.replies))

-- a step's reply joins the later ones
module _ (m : Model) (s : Step Model) (issues : Issues m s) (later : List ℕ) where
  in_order_lem : later ≡ numbers_from (suc s.state.count) (length later)
      → handle_of s.reply.outcome later ≡ numbers_from (suc m.count) (length (handle_of s.reply.outcome later))
  unfolding numbers_from
  in_order_lem h = go issues
    where
      go : Issues m s → handle_of s.reply.outcome later ≡ numbers_from (suc m.count) (length (handle_of s.reply.outcome later))
      go (inl q) =
          subst (λ (hs : List ℕ). hs ≡ numbers_from (suc m.count) (length hs)) (sym (q.0 later))
          (h ∙ ap (λ (n : ℕ). numbers_from (suc n) (length later)) q.1)
      go (inr q) =
          subst (λ (hs : List ℕ). hs ≡ numbers_from (suc m.count) (length hs)) (sym (q.0 later))
          (ap {B = List ℕ} (λ ns. suc m.count ∷ ns) (h ∙ ap (λ (n : ℕ). numbers_from (suc n) (length later)) q.1))

-- no call; and one step before a run
pub ran_none : {t : Tables} {m : Model} → Related t m → Ran m (record { replies = []; state = t }) (record { replies = []; state = m })
unfolding any issued numbers_from
ran_none related = record { same_replies = refl; related_after = related; never_corrupt = refl; handles_in_order = refl }

pub ran_next : {m : Model} {s : Step Tables} {s' : Step Model} {later : Run Tables} {later' : Run Model} → Together m s s'
    → Ran s'.state later later'
    → Ran m (record { replies = s.reply ∷ later.replies; state = later.state }) (record { replies = s'.reply ∷ later'.replies; state = later'.state })
unfolding any issued
ran_next {m} {s} {s'} {later} {later'} now then =
    record {
      same_replies = ap₂ (λ (r : Reply) (rs : List Reply). r ∷ rs) now.same_reply then.same_replies;
      related_after = then.related_after;
      never_corrupt = ap₂ (λ (a b : Bool). a || b) now.never_corrupt then.never_corrupt;
      handles_in_order = in_order_lem m s' now.issues (issued later'.replies) then.handles_in_order;
    }

ran : (t : Tables) (m : Model) → Related t m → (calls : List Call) → Ran m (run store_step t calls) (run model_step m calls)
unfolding run
ran t m related [] = ran_none related
ran t m related (c ∷ cs) = let now = together related c in ran_next now (ran (store_step t c).state (model_step m c).state now.related_after cs)

-- what holds of related states
module _ {t : Tables} {m : Model} (related : Related t m) where
  counts_theirs : (s : StreamNo) → s.0 < length t.volume.streams → (stream_at t.volume.streams s).counts ≡ counts_of s m.entries
  counts_theirs s b = related.consistent_tables.counts s b ∙ counts_perm related.opens_are_entries s

-- numbers in order are different
numbers_above : (k n j : ℕ) → j < k → all (λ i. not (eqb j i)) (numbers_from k n) ≡ true
unfolding all numbers_from
numbers_above k zero j h = refl
numbers_above k (suc n) j h = and_both (not_is (ne_eqb j k (λ e. let z : ⊥ = omega arith in z))) (numbers_above (suc k) n j (omega arith))

numbers_differ : (k n : ℕ) → pairs (λ h i. not (eqb h i)) (numbers_from k n) ≡ true
unfolding pairs numbers_from
numbers_differ k zero = refl
numbers_differ k (suc n) = and_both (numbers_above (suc k) n k (omega arith)) (numbers_differ (suc k) n)

-- format gives related states
pub fresh_related : (masks : List ℕ) (read_only : Bool) → valid_masks masks ≡ true → Related (fresh_tables masks read_only) (fresh_model masks read_only)
unfolding live keep open_used fresh_volume fresh_tables fresh_model
fresh_related masks read_only v =
    record { consistent_tables = fresh-consistent masks read_only v; opens_are_entries = nil; same_namespace = refl; next_handle = refl }

-- a format that succeeded had valid masks, and left fresh tables
pub formatted : (t : Tables) (masks : List ℕ) (read_only : Bool) → (format t masks read_only).reply.outcome ≡ Done
    → (valid_masks masks ≡ true) × ((format t masks read_only).state ≡ fresh_tables masks read_only)
unfolding format checked_masks concluded refuse_if ◌>>◌
formatted t masks read_only h = go (right_lengths t.volume t.opens) (valid_masks masks) refl h
  where
    go : (a b : Bool) → valid_masks masks ≡ b
        → (concluded t (refuse_if (not a) FileCorruptError >> (refuse_if (not b) InvalidParameter >> passed (done (fresh_tables masks read_only))))).reply.outcome ≡ Done
        → (b ≡ true) × ((concluded t (refuse_if (not a) FileCorruptError >> (refuse_if (not b) InvalidParameter >> passed (done (fresh_tables masks read_only))))).state ≡ fresh_tables masks read_only)
    go true true e k = (refl, refl)
    go true false e k = absurd (refused≢done k)
    go false b e k = absurd (refused≢done k)

pub model_formatted : (m : Model) (masks : List ℕ) (read_only : Bool) → valid_masks masks ≡ true
    → (model_format m masks read_only).state ≡ fresh_model masks read_only
unfolding model_format checked_masks concluded refuse_if ◌>>◌
model_formatted m masks read_only v = rw v

-- that no two conflict does not depend on their order
no_conflict_lem : {t : Tables} {m : Model} → Related t m → pairs opens_agree m.entries ≡ true
unfolding live open_used
no_conflict_lem {t} {m} related =
    sym (perm_pairs opens_agree agree_swap related.opens_are_entries)
    ∙ (two_iff open_used zero_open refl opens_agree OpensAgree agree_iff t.opens.rows).1 related.consistent_tables.conflicts

-- all that the statement asks follows from a run that began with no handle issued
pub agree : (m : Model) → m.count ≡ 0 → (s : Run Tables) (r : Run Model) → Ran m s r → Agree s r
agree m unissued s r q =
    let related = q.related_after in
    let in_order : issued s.replies ≡ numbers_from 1 (length (issued s.replies)) =
    subst (λ (rs : List Reply). issued rs ≡ numbers_from 1 (length (issued rs))) (sym q.same_replies)
    (q.handles_in_order ∙ ap (λ (n : ℕ). numbers_from (suc n) (length (issued r.replies))) unissued) in
    record {
      never_corrupt = ap (any is_corrupt) q.same_replies ∙ q.never_corrupt;
      same_replies = q.same_replies;
      tables_consistent = related.consistent_tables;
      opens_are_entries = related.opens_are_entries;
      counts_are_theirs = counts_theirs related;
      same_namespace = related.same_namespace;
      next_handle = related.next_handle;
      no_conflict = no_conflict_lem related;
      share_check_right = share_right related;
      violation_exactly = violation related;
      violation_only_there = λ x units e. let w = from-check s.state related.consistent_tables x units e in (w.0, w.1);
      handles_in_order = in_order;
      handles_differ = ap (pairs (λ h k. not (eqb h k))) in_order ∙ numbers_differ 1 (length (issued s.replies));
    }

pub every_sequence : EverySequence
unfolding fresh_model
every_sequence t m masks read_only accepted calls =
    let f = formatted t masks read_only accepted in
    let g = model_formatted m masks read_only f.0 in
    subst₂ (λ (x : Tables) (y : Model). Agree (run store_step x calls) (run model_step y calls)) (sym f.1) (sym g)
    (agree (fresh_model masks read_only) refl _ _ (ran _ _ (fresh_related masks read_only f.0) calls))
