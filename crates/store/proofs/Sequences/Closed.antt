-- A close keeps tables and model related: both strike the open, and both decide alike what becomes of its file and stream.
use Rattle.base.{specs.Base.{suc, Permutation, both, keep, namespace, Namespace, Tables, Handle, Open, Bool, cond, not, ◌&&◌, ◌≡◌, eqb}, proofs.Laws.{perm_any, perm_apart, perm_sym, ◌∙◌, ap, ap₂, subst, sym}}
use Rattle.consistency.specs.Consistent.{Consistent}
use Rattle.tables.specs.Tables.{live, any_on_file, any_on_stream}
use Rattle.store.proofs.Sequences.{Opens.Close.{Struck, handle_is, one_handle, others_kept}, Related.Related, Closing.{Struck.{struck_names, struck-live, struck-counts, struck-conflicts, after_strike}, Effects.settled-consistent, Names.names_after, Facts.{file_goes, stream_goes}}}
use Rattle.store.specs.{Close.{CloseEffect, close_effect, removes_file, removes_stream, marks_file, marks_stream, unchanged, file_marked, file_removed, stream_marked, stream_removed, namespace_after}, Complete.View, Model.{Model, model_closed, model_settled, model_struck, model_view}, Store.{closed, has_handle, settled, store_view, struck, volume_after, volume_without_open}}

-- a close leaves consistent tables
pub closed-consistent : {t : Tables} → Consistent t.volume t.opens → (h : Handle) (o : Open) → Struck h o t.opens.rows
    → Consistent (closed t o).state.volume (closed t o).state.opens
unfolding closed
closed-consistent {t} ok h o s =
    settled-consistent (struck t o) o (after_strike ok h o s) (struck-counts ok h o s) (struck-conflicts ok h o s)

-- the effect is asked of two answers about the opens
effects_same : (view view' : View) (ns : Namespace) (o : Open) → view.file_open o.file ≡ view'.file_open o.file
    → view.stream_open o.stream ≡ view'.stream_open o.stream → close_effect view ns o ≡ close_effect view' ns o
unfolding close_effect removes_file removes_stream
effects_same view view' ns o f s =
    ap₂
    (λ (a b : Bool).
    cond (file_goes ns o && not a) (file_removed o.file)
    (cond (stream_goes ns o && not b) (stream_removed o.stream)
    (cond (marks_file ns o) (file_marked o.file) (cond (marks_stream ns o) (stream_marked o.stream) unchanged))))
    f s

module _ {t : Tables} {m : Model} (related : Related t m) (h : Handle) (o : Open) (s : Struck h o t.opens.rows) where
  ok : Consistent t.volume t.opens
  ok = related.consistent_tables

  -- the model's entries without the open
  entries_left : Permutation (live (struck t o).opens.rows) (model_struck m o).entries
  unfolding model_struck
  entries_left =
      let kept = struck-live ok h o s in
      subst (λ (k : Handle). Permutation (live (struck t o).opens.rows) (keep (λ q. not (has_handle k q)) m.entries))
      (sym (handle_is h o s.has))
      (others_kept h o (live (struck t o).opens.rows) (both (perm_sym related.opens_are_entries) kept) s.has
      (sym (perm_apart (has_handle h) kept) ∙ one_handle h ok.opens))

  struck-same : namespace (struck t o).volume ≡ (model_struck m o).namespace
  unfolding model_struck
  struck-same = struck_names ok h o s ∙ related.same_namespace

  effects_alike : close_effect (store_view (struck t o)) (namespace (struck t o).volume) o
      ≡ close_effect (model_view (model_struck m o)) (model_struck m o).namespace o
  unfolding store_view model_view any_on_file any_on_stream
  effects_alike =
      effects_same (store_view (struck t o)) (model_view (model_struck m o)) (namespace (struck t o).volume) o
      (perm_any (λ q. eqb q.file.0 o.file.0) entries_left)
      (perm_any (λ q. eqb q.stream.0 o.stream.0) entries_left)
      ∙ ap (λ (ns : Namespace). close_effect (model_view (model_struck m o)) ns o) struck-same

  next_left : (closed t o).state.volume.next_handle.0 ≡ suc (model_closed m o).state.count
  unfolding closed settled volume_after struck volume_without_open model_closed model_settled model_struck
  next_left = related.next_handle

  pub close_related : Related (closed t o).state (model_closed m o).state
  unfolding closed settled model_closed model_settled
  close_related =
      let e = close_effect (store_view (struck t o)) (namespace (struck t o).volume) o in
      record {
        consistent_tables = closed-consistent ok h o s;
        opens_are_entries = entries_left;
        same_namespace =
            names_after e (struck t o).volume
            ∙ ap₂ (λ (x : CloseEffect) (ns : Namespace). namespace_after x ns) effects_alike struck-same;
        next_handle = next_left;
      }
