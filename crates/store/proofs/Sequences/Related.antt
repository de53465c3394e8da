-- Tables and a model that hold the same: they find the same open by its handle. And consistent tables, by their
-- namespace.
use Rattle.base.{specs.Base.{suc, Permutation, some_or, Namespace, namespace, open_used, Tables, Handle, Open, InvalidHandle, Option, ◌≡◌}, proofs.Laws.{find_keep, perm_find, ◌∙◌, ap, subst, sym}}
use Rattle.consistency.specs.Consistent.{Consistent, CountsTrue, FilesConsistent, LinksConsistent, MarksConsistent, MarksHeld, NoConflicts, OpensConsistent, StreamsConsistent}
use Rattle.tables.specs.Tables.{live}
use Rattle.store.proofs.Sequences.{Facts.NamespaceConsistent, Opens.Close.{handle_used, one_handle}}
use Rattle.store.specs.{Close.decide_close, Model.{Model, model_view}, Store.{has_handle, store_view}}

-- tables and a model that hold the same
pub record Related (t : Tables) (m : Model) : Type 0 where
  pub consistent_tables : Consistent t.volume t.opens
  pub opens_are_entries : Permutation (live t.opens.rows) m.entries
  pub same_namespace : namespace t.volume ≡ m.namespace
  pub next_handle : t.volume.next_handle.0 ≡ suc m.count

-- tables whose namespace is this
pub consistent_with : (t : Tables) (ns : Namespace) → namespace t.volume ≡ ns → NamespaceConsistent ns
    → OpensConsistent ns.streams t.volume.next_handle.0 t.opens.rows
    → CountsTrue t.volume.streams t.opens.rows
    → NoConflicts t.opens.rows
    → MarksHeld ns.files ns.streams t.opens.rows
    → Consistent t.volume t.opens
unfolding namespace
consistent_with t ns e n o c a h =
    record {
      files = subst (λ (x : Namespace). FilesConsistent x.files) (sym e) n.files;
      links = subst (λ (x : Namespace). LinksConsistent x.files x.links) (sym e) n.links;
      streams = subst (λ (x : Namespace). StreamsConsistent x.files x.streams) (sym e) n.streams;
      opens = subst (λ (x : Namespace). OpensConsistent x.streams t.volume.next_handle.0 t.opens.rows) (sym e) o;
      counts = c;
      conflicts = a;
      marks = subst (λ (x : Namespace). MarksConsistent x.files x.links) (sym e) n.marks;
      held = subst (λ (x : Namespace). MarksHeld x.files x.streams t.opens.rows) (sym e) h;
    }

module _ {t : Tables} {m : Model} (related : Related t m) where
  -- no two entries have one handle
  opens_same : (h : Handle) → (store_view t).open_of h ≡ (model_view m).open_of h
  unfolding store_view model_view live
  opens_same h =
      sym (find_keep (has_handle h) open_used (handle_used h) t.opens.rows)
      ∙ perm_find (has_handle h) related.opens_are_entries (one_handle h related.consistent_tables.opens)

  pub closing_alike : (h : Handle) → decide_close (store_view t) h ≡ decide_close (model_view m) h
  unfolding decide_close
  closing_alike h = ap (λ (o : Option Open). some_or InvalidHandle o) (opens_same h)
