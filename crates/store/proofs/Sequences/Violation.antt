-- SHARING_VIOLATION: it comes from no open that does not reach the sharing check. For one that does, the share check says
-- what comparing it with each entry on the stream says, and the status comes exactly when one conflicts.
use Rattle.base.{specs.Base.{ℕ, Checked, Refusal, ◌>>=◌, passed, refused, Namespace, namespace, Step, Tables, concluded, Refused, Request, SharingViolation, Status, true, List, ◌↔◌, ◌≡◌}, proofs.Laws.{Ends, bind_of, passed_same, refused_same, stopped, test_refuses, went, ◌∙◌, ap, refl, subst, sym, arith}}
use Rattle.consistency.specs.Consistent.{Consistent}
use Rattle.sharing.specs.Sharing.{any_conflict, share_check}
use Rattle.tables.specs.Tables.{stream_at}
use Rattle.store.proofs.Sequences.{Completed.{DecisionFits, Late, complete_ends, not_sharing}, Facts.{Early, PendingFits, namespace_of}, Opens.Names.used_below, Prepared.{prepare_ends, prepared}, Steps.when_consistent_lem, Related.Related, Views.conflicts_agree}
use Rattle.store.specs.{Complete.{Decision, complete, decide}, Model.Model, Prepare.{Existing, Pending, existing, prepare}, Request.deletes_on_close, Store.{opened, store_open, store_view}}

-- only a refused decision is answered by a refusal
refused_by : (t : Tables) (c : Checked Decision) (s : Status)
    → (concluded t (c >>= (λ d. passed (opened t d)))).reply.outcome ≡ Refused s → (r : Refusal) × (c ≡ refused r) × (r.status ≡ s)
unfolding concluded opened ◌>>=◌
refused_by t (refused r) s e = (r, refl, let h : r.status ≡ s = cc in h)
refused_by t (passed d) s e = absurd (let z : ◌≡◌ {A = ℕ} 0 1 = cc in let w : ⊥ = omega arith in w)

module _ (t : Tables) (ok : Consistent t.volume t.opens) (r : Request) (units : List ℕ) where
  abbrev ns : Namespace
  ns = namespace t.volume

  answers : store_open t r units ≡ concluded t (decide (store_view t) ns r units >>= (λ d. passed (opened t d)))
  unfolding store_open
  answers = when_consistent_lem t ok _

  -- where it comes from
  pub from-check : (store_open t r units).reply.outcome ≡ Refused SharingViolation
      → (e : Existing) × (prepare ns r units ≡ passed (existing e)) × ((store_view t).conflicts e.stream e.terms ≡ true)
  unfolding decide ◌>>=◌
  from-check o =
      let q = refused_by t _ SharingViolation (sym (ap (λ (s : Step Tables). s.reply.outcome) answers) ∙ o) in
      go (prepare ns r units) refl (prepare_ends ns r units (namespace_of ok)) q.0 q.1 q.2
    where
      go : (c : Checked Pending) → prepare ns r units ≡ c → Ends Early (PendingFits ns (deletes_on_close r)) c → (s : Refusal)
          → (c >>= complete (store_view t) ns (deletes_on_close r)) ≡ refused s → s.status ≡ SharingViolation
          → (e : Existing) × (prepare ns r units ≡ passed (existing e)) × ((store_view t).conflicts e.stream e.terms ≡ true)
      go (refused q) p h s e v = absurd (not_sharing q (stopped h) (ap (λ (x : Refusal). x.status) (refused_same e) ∙ v))
      go (passed x) p h s e v =
          let late = stopped (subst (Ends (Late (store_view t) x) (DecisionFits ns (store_view t))) e (complete_ends (store_view t) ns (deletes_on_close r) x (namespace_of ok) (went h))) in
          let w = late.sharing v in
          (w.0, p ∙ ap passed w.1, w.2)

  pub exactly : (e : Existing) → prepare ns r units ≡ passed (existing e)
      → ((store_open t r units).reply.outcome ≡ Refused SharingViolation) ↔ ((store_view t).conflicts e.stream e.terms ≡ true)
  unfolding decide complete concluded ◌>>=◌
  exactly e reaches = (
    λ o.
        let w = from-check o in
        let same : w.0 ≡ e = existing_same (passed_same (sym w.1 ∙ reaches)) in
        subst (λ (x : Existing). (store_view t).conflicts x.stream x.terms ≡ true) same w.2,
    λ c.
        ap (λ (s : Step Tables). s.reply.outcome)
        (answers
        ∙ ap (λ (x : Checked Decision). concluded t (x >>= (λ d. passed (opened t d))))
        (bind_of (complete (store_view t) ns (deletes_on_close r)) reaches ∙ test_refuses SharingViolation _ c)),
  )
    where
      existing_same : {x y : Existing} → existing x ≡ existing y → x ≡ y
      existing_same q = cc

module _ {t : Tables} {m : Model} (related : Related t m) (r : Request) (units : List ℕ) (e : Existing)
    (reaches : prepare (namespace t.volume) r units ≡ passed (existing e)) where
  -- its stream is a used one, so its counts are those of the entries
  pub share_right : share_check (stream_at t.volume.streams e.stream).counts e.terms ≡ any_conflict e.stream e.terms m.entries
  unfolding namespace
  share_right =
      conflicts_agree related e.stream
      (used_below t.volume.streams e.stream
      (prepared (namespace t.volume) r units (existing e) (namespace_of related.consistent_tables) reaches).stream_used)
      e.terms

  pub violation : ((store_open t r units).reply.outcome ≡ Refused SharingViolation) ↔ (any_conflict e.stream e.terms m.entries ≡ true)
  unfolding store_view
  violation =
      let x = exactly t related.consistent_tables r units e reaches in
      (λ o. sym share_right ∙ x.0 o, λ c. x.1 (share_right ∙ c))
