-- What each event keeps: tables and model stay related, the next handle has its eight bytes, and the blocks written have it.
use Rattle.base.{specs.Base.{ℕ, suc, ◌≤◌, ◌≡◌, true, List, [], ◌∷◌, ◌++◌, any, ◌+◌, last_handle, Checked, refused, passed, ◌>>=◌, ◌>>◌, seen, status_number, inl, inr, Tables, Step, done, concluded, Reply, Outcome, Success, Done, Refused, Open, Request, FileCorruptError}, proofs.Laws.{refl, sym, ◌∙◌, ap, subst, arith, eqb-false, guarded, not-false, false≢true, Ends, stops, goes, ends_test, leb_iff, and_right}}
use Rattle.call_contracts.proofs.Decided.{decided}
use Rattle.image.specs.{Blocks.{image_blocks, image_part}, Image.{blocks_in, whole_blocks, checked_row}}
use Rattle.store.{specs.{Calls.{Call, opens, closes, sets_read_only, model_step}, Complete.{Decision, decide}, Model.{Model, model_view, model_open, model_opened, model_close, model_closed, model_settled, model_struck, model_set_read_only}, Sequences.{handle_of, is_corrupt}}, proofs.Sequences.{Facts.{NamespaceConsistent, Other, namespace_of}, Related.Related, Steps.{Issues, Together, together, refused_together, when_consistent_lem}}}
use Rattle.restarts.proofs.{Blocks.{AllFresh, given_fresh}, Read.restored_related}
use Rattle.restarts.specs.Events.{Event, calls, writes, restarts, restored, store_event, model_event, model_restarted, unless_opened, blocks_given, written_after, succeeds, own_restart}

pub record Kept (t : Tables) (m : Model) (written : List (List ℕ)) : Type 0 where
  pub related : Related t m
  pub below : suc m.count ≤ last_handle
  pub fresh : AllFresh m.count written

-- an open is accepted only while the next handle is not the last
module _ {t : Tables} {m : Model} (related : Related t m) (below : suc m.count ≤ last_handle) where
  open_below : (r : Request) (units : List ℕ) (c : Checked Decision) → decide (model_view m) m.namespace r units ≡ c
      → suc (concluded m (c >>= (λ d. passed (model_opened m d)))).state.count ≤ last_handle
  unfolding concluded ◌>>=◌ model_opened model_view
  open_below r units (refused q) e = below
  open_below r units (passed d) e =
      let ok : NamespaceConsistent m.namespace = subst NamespaceConsistent related.same_namespace (namespace_of related.consistent_tables) in
      let last : suc m.count ≡ last_handle → ⊥ = eqb-false _ _ (decided (model_view m) m.namespace r units d ok e).not_last in
      omega arith

  close_below : (c : Checked Open) → suc (concluded m (c >>= (λ o. passed (model_closed m o)))).state.count ≤ last_handle
  unfolding concluded ◌>>=◌ model_closed model_settled model_struck
  close_below (refused r) = below
  close_below (passed o) = below

  call_below : (c : Call) → suc (model_step m c).state.count ≤ last_handle
  unfolding model_step model_open model_close model_set_read_only
  call_below (opens r units) = open_below r units _ refl
  call_below (closes h) = close_below _
  call_below (sets_read_only b) = below

-- an accepted open makes the blocks stale, and nothing else changes the count
none_issued : {k : ℕ} → ◌≡◌ {A = List ℕ} [] (k ∷ []) → ⊥
none_issued e = let z : ◌≡◌ {A = ℕ} 0 1 = cc in omega arith

call_fresh : (m : Model) (s : Step Model) (written : List (List ℕ)) → Issues m s → AllFresh m.count written → (o : Outcome)
    → s.reply.outcome ≡ o → AllFresh s.state.count (unless_opened o written)
unfolding unless_opened handle_of any
call_fresh m s written issues fresh (Success a h) e = λ b n. absurd (false≢true n)
call_fresh m s written (inl q) fresh Done e = subst (λ (n : ℕ). AllFresh n written) (sym q.1) fresh
call_fresh m s written (inl q) fresh (Refused r) e = subst (λ (n : ℕ). AllFresh n written) (sym q.1) fresh
call_fresh m s written (inr q) fresh Done e = absurd (none_issued (sym (ap (λ (x : Outcome). handle_of x []) e) ∙ q.0 []))
call_fresh m s written (inr q) fresh (Refused r) e = absurd (none_issued (sym (ap (λ (x : Outcome). handle_of x []) e) ∙ q.0 []))

-- an event that is answered alike, and keeps this
abbrev pub Answered : Tables → Model → List (List ℕ) → Event → Type 0
Answered t m written e =
    Together m (store_event t e) (model_event m e) × Kept (store_event t e).state (model_event m e).state (written_after t e written)

-- a call
pub call_kept : {t : Tables} {m : Model} {written : List (List ℕ)} → Kept t m written → (c : Call) → Answered t m written (calls c)
unfolding store_event model_event written_after
call_kept {m = m} {written} kept c =
    let now = together kept.related c in (
      now,
      record {
        related = now.related_after;
        below = call_below kept.related kept.below c;
        fresh = call_fresh m (model_step m c) written now.issues kept.fresh _ (sym (ap (λ (r : Reply). r.outcome) now.same_reply));
      },
    )

-- a row that a write takes is within the image
row_ends : (first long : ℕ) → Ends (Other FileCorruptError) (λ k. first + blocks_in long ≤ image_blocks) (checked_row first long)
unfolding checked_row status_number
row_ends first long =
    ends_test _ _ refl (λ e. goes ((leb_iff _ _).0 (and_right (whole_blocks long) _ (not-false _ e))))

-- a write is answered by its row alone, and leaves tables and model
module _ {t : Tables} {m : Model} {written : List (List ℕ)} (kept : Kept t m written) (first long : ℕ) where
  row_kept : {c : Checked ℕ} → Ends (Other FileCorruptError) (λ k. first + blocks_in long ≤ image_blocks) c
      → let s = concluded t (c >> passed (done t)) in
      let s' = concluded m (c >> passed (done m)) in
      Together m s s' × Kept s.state s'.state (blocks_given t first long s.reply.outcome ++ written)
  unfolding concluded ◌>>◌ blocks_given image_part is_corrupt seen status_number handle_of
  row_kept (stops {r} q) = (refused_together kept.related r q, kept)
  row_kept (goes q) = (
    record { same_reply = refl; related_after = kept.related; never_corrupt = refl; issues = inl (λ hs. refl, refl) },
    record {
      related = kept.related;
      below = kept.below;
      fresh = given_fresh t m.count kept.related.next_handle written kept.fresh (blocks_in long) first q;
    },
  )

  pub write_kept : Answered t m written (writes first long)
  unfolding store_event model_event written_after
  write_kept =
      let s' = concluded m (checked_row first long >> passed (done m)) in
      subst (λ (s : Step Tables). Together m s s' × Kept s.state s'.state (blocks_given t first long s.reply.outcome ++ written))
      (sym (when_consistent_lem t kept.related.consistent_tables _))
      (row_kept (row_ends first long))

-- a restart leaves tables and model as they were, or those that blocks written hold; the model's count stays
module _ {t : Tables} {m : Model} {written : List (List ℕ)} (kept : Kept t m written) (rows : List (List ℕ)) where
  restored-kept : (c : Checked Tables) → ((u : Tables) → c ≡ passed u → Related u (model_restarted m u))
      → Kept (concluded t (c >>= (λ u. passed (done u)))).state (concluded m (c >>= (λ u. passed (done (model_restarted m u))))).state written
  unfolding concluded ◌>>=◌ model_restarted
  restored-kept (refused r) h = kept
  restored-kept (passed u) h = record { related = h u refl; below = kept.below; fresh = kept.fresh }

  pub restart_kept : own_restart written (restarts rows) ≡ true
      → Kept (store_event t (restarts rows)).state (model_event m (restarts rows)).state written
  unfolding store_event model_event own_restart succeeds
  restart_kept own =
      restored-kept (restored rows)
      (λ u e. restored_related m kept.below written kept.fresh rows (guarded (succeeds (restored rows)) _ own (ap succeeds e)) u e)

pub restart_count : (m : Model) (rows : List (List ℕ)) → (model_event m (restarts rows)).state.count ≡ m.count
unfolding model_event model_restarted concluded ◌>>=◌
restart_count m rows = go (restored rows)
  where
    go : (c : Checked Tables) → (concluded m (c >>= (λ u. passed (done (model_restarted m u))))).state.count ≡ m.count
    go (refused r) = refl
    go (passed u) = refl
