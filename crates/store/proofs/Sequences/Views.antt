-- The tables and the model that they are related to answer every question about the opens alike, so that the twelve
-- steps are decided alike.
use Rattle.base.{specs.Base.{◌<◌, ℕ, any, Checked, ◌>>=◌, ◌>>◌, passed, refuse_if, refused, Namespace, namespace, last_handle, open_slots, open_used, Tables, Terms, Created, Handle, Request, InsufficientResources, SharingViolation, TooManyOpenedFiles, StreamNo, eqb, ltb, length, Bool, not, List, ◌≡◌}, proofs.Laws.{count_short, length-keep, perm_any, perm_length, Ends, went, ◌∙◌, ap, ap₂, refl, subst, sym}}
use Rattle.sharing.{proofs.{Check.share_check_right_lem, Counts.counts_perm}, specs.Sharing.{any_conflict, share_check}}
use Rattle.tables.specs.Tables.{stream_at, live, any_on_file}
use Rattle.store.proofs.Sequences.{Facts.{Early, ExistingFits, PendingFits, namespace_of}, Related.Related, Opens.Names.used_below, Prepared.prepare_ends}
use Rattle.store.specs.{Complete.{View, complete, decide, place, place_existing, share_of, next_handle}, Model.{Model, model_view}, Prepare.{Existing, Pending, creating, existing, prepare}, Request.deletes_on_close, Store.{store_view}}

module _ {t : Tables} {m : Model} (related : Related t m) where
  -- the share check from the counts says what comparing with each entry says
  pub conflicts_agree : (s : StreamNo) → s.0 < length t.volume.streams → (terms : Terms)
      → share_check (stream_at t.volume.streams s).counts terms ≡ any_conflict s terms m.entries
  conflicts_agree s b terms =
      ap (λ c. share_check c terms) (related.consistent_tables.counts s b ∙ counts_perm related.opens_are_entries s)
      ∙ share_check_right_lem s m.entries terms

  room_agrees : any (λ o. not (open_used o)) t.opens.rows ≡ ltb (length m.entries) open_slots
  unfolding live
  room_agrees =
      count_short open_used t.opens.rows
      ∙ ap₂ ltb (sym (length-keep open_used t.opens.rows) ∙ perm_length related.opens_are_entries)
      related.consistent_tables.opens.slots.size

-- what completing a pending open asks
pub record Alike (view view' : View) (p : Pending) : Type 0 where
  pub conflicts : (e : Existing) → p ≡ existing e → view.conflicts e.stream e.terms ≡ view'.conflicts e.stream e.terms
  pub file_open : (e : Existing) → p ≡ existing e → view.file_open e.file ≡ view'.file_open e.file
  pub room : view.room ≡ view'.room
  pub next : view.next ≡ view'.next

-- step 12's slot and handle, of a view's two answers
abbrev slot : Bool → ℕ → Checked Handle
slot room next =
    refuse_if (not room) TooManyOpenedFiles
    >> (refuse_if (eqb next last_handle) InsufficientResources >> passed (record { 0 = next }))

completed_alike : (view view' : View) (ns : Namespace) (deletes : Bool) (p : Pending) → Alike view view' p
    → complete view ns deletes p ≡ complete view' ns deletes p
unfolding complete next_handle
completed_alike view view' ns deletes (existing e) alike =
    λ i.
    refuse_if (alike.conflicts e refl i) SharingViolation
    >> (share_of e.read_sharing (not (alike.file_open e refl i)) e.terms
    >>= (λ terms. slot (alike.room i) (alike.next i)
    >>= (λ handle.
    passed
    (record {
      action = e.action;
      placed = place_existing ns e;
      terms = terms;
      handle = handle;
      delete_on_close = deletes;
    }))))
completed_alike view view' ns deletes (creating c terms) alike =
    λ i.
    place ns c
    >>= (λ placed. slot (alike.room i) (alike.next i)
    >>= (λ handle.
    passed (record { action = Created; placed = placed; terms = terms; handle = handle; delete_on_close = deletes })))

-- related tables and model answer alike
module _ {t : Tables} {m : Model} (related : Related t m) where
  pub views_alike : (deletes : Bool) (p : Pending) → PendingFits (namespace t.volume) deletes p
      → Alike (store_view t) (model_view m) p
  unfolding store_view model_view any_on_file namespace
  views_alike deletes p fits =
      record {
        conflicts = λ e q. conflicts_agree related e.stream (below e (fits_existing q)) e.terms;
        file_open = λ e q. perm_any (λ o. eqb o.file.0 e.file.0) related.opens_are_entries;
        room = room_agrees related;
        next = related.next_handle;
      }
    where
      fits_existing : {e : Existing} → p ≡ existing e → ExistingFits (namespace t.volume) deletes e
      fits_existing q = subst (λ (x : Pending). PendingFits (namespace t.volume) deletes x) q fits

      below : (e : Existing) → ExistingFits (namespace t.volume) deletes e → e.stream.0 < length t.volume.streams
      below e f = used_below t.volume.streams e.stream f.stream_used

  pub room_same : (store_view t).room ≡ (model_view m).room
  unfolding store_view model_view
  room_same = room_agrees related

  -- the twelve steps
  pub decided_alike : (r : Request) (units : List ℕ)
      → decide (store_view t) (namespace t.volume) r units ≡ decide (model_view m) m.namespace r units
  unfolding decide ◌>>=◌
  decided_alike r units =
      go (prepare ns r units) (prepare_ends ns r units (namespace_of related.consistent_tables))
      ∙ ap (λ (n : Namespace). prepare n r units >>= complete (model_view m) n (deletes_on_close r)) related.same_namespace
    where
      ns : Namespace
      ns = namespace t.volume

      deletes : Bool
      deletes = deletes_on_close r

      go : (c : Checked Pending) → Ends Early (PendingFits ns deletes) c
          → (c >>= complete (store_view t) ns deletes) ≡ (c >>= complete (model_view m) ns deletes)
      go (refused r) h = refl
      go (passed p) h = completed_alike (store_view t) (model_view m) ns deletes p (views_alike deletes p (went h))
