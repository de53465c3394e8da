-- The model (the paper's book): a plain machine without slots for opens, share counts or a consistency test. Its entries
-- stand for the opens table, and sharing goes by the pair rule with each entry on the stream.
use Rattle.std.specs.Prelude.{◌∷◌}
use Rattle.base.specs.Base.{ℕ, suc, Bool, not, List, [], ltb, length, find, keep, open_slots, Namespace, namespace, passed, ◌>>=◌, ◌>>◌, Step, done, concluded, Handle, Open, Request}
use Rattle.format.specs.Format.{fresh_volume, checked_masks}
use Rattle.sharing.specs.Sharing.{any_conflict}
use Rattle.tables.specs.Tables.{any_on_file, any_on_stream}
use Rattle.store.specs.{Complete.{View, Decision, new_open, open_reply, changed, decide}, Close.{close_effect, namespace_after, decide_close}, Store.has_handle}

pub record Model : Type 0 where
  pub namespace : Namespace
  pub count : ℕ
  pub entries : List Open

-- a format that succeeds leaves no entry and count 0; one that doesn't leaves the model as it was
unfoldable pub fresh_model : List ℕ → Bool → Model
fresh_model masks read_only = record { namespace = namespace (fresh_volume masks read_only); count = 0; entries = [] }

unfoldable pub model_format : Model → List ℕ → Bool → Step Model
model_format m masks read_only = concluded m (checked_masks masks >> passed (done (fresh_model masks read_only)))

unfoldable pub model_view : Model → View
model_view m =
    record {
      conflicts = λ s terms. any_conflict s terms m.entries;
      file_open = λ f. any_on_file f m.entries;
      stream_open = λ s. any_on_stream s m.entries;
      open_of = λ h. find (has_handle h) m.entries;
      room = ltb (length m.entries) open_slots;
      next = suc m.count;
    }

unfoldable pub model_opened : Model → Decision → Step Model
model_opened m d =
    record {
      reply = open_reply d;
      state =
          record {
            namespace = changed d.placed.change m.namespace;
            count = suc m.count;
            entries = new_open d ∷ m.entries;
          };
    }

unfoldable pub model_open : Model → Request → List ℕ → Step Model
model_open m r units =
    concluded m (decide (model_view m) m.namespace r units >>= (λ d. passed (model_opened m d)))

unfoldable pub model_struck : Model → Open → Model
model_struck m o =
    record {
      namespace = m.namespace;
      count = m.count;
      entries = keep (λ q. not (has_handle o.handle q)) m.entries;
    }

unfoldable pub model_settled : Model → Open → Model
model_settled m o =
    record {
      namespace = namespace_after (close_effect (model_view m) m.namespace o) m.namespace;
      count = m.count;
      entries = m.entries;
    }

unfoldable pub model_closed : Model → Open → Step Model
model_closed m o = done (model_settled (model_struck m o) o)

unfoldable pub model_close : Model → Handle → Step Model
model_close m h = concluded m (decide_close (model_view m) h >>= (λ o. passed (model_closed m o)))

unfoldable pub namespace_marked : Bool → Namespace → Namespace
namespace_marked read_only ns =
    record { read_only = read_only; files = ns.files; links = ns.links; streams = ns.streams }

unfoldable pub model_set_read_only : Model → Bool → Step Model
model_set_read_only m read_only =
    done
    (record { namespace = namespace_marked read_only m.namespace; count = m.count; entries = m.entries })
