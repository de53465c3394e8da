-- An accepted open: the writes leave what the definition leaves, and the names that they store fill their places.
use Rattle.base.{specs.Base.{ℕ, suc, ◌<◌, ◌≡◌, List, [], ◌≢◌, Option, some, ltb, length, set, count, keep, last_handle, open_used, namespace, passed, Tables, StreamNo, Stream, Open, Request}, proofs.Laws.{sym, ap, arith, get_or_default, by_cases, ltb-true, ltb-false, eqb-false, length-keep, count_bound}}
use Rattle.apply.specs.Applied.{raised, StoredNames, open_stored, applied}
use Rattle.codecs.specs.Codec.{Below}
use Rattle.consistency.specs.Consistent.{Consistent, CountsTrue}
use Rattle.open_table.specs.Rows.{free_row}
use Rattle.sharing.{specs.{Sharing.{counts_of, counts_of_all, with_open}, Saturating.{count_limit, with_open_up_to}}, proofs.UpTo.up_to_counts}
use Rattle.store.{specs.{Complete.{Decision, new_open, decide}, Store.{store_view, changed_volume, recount, stored, rows_with_open, volume_with_open, opened}}, proofs.Sequences.{Facts.namespace_of, Opens.Counts.counts_written}}
use Rattle.tables.specs.Tables.{stream_at, live}
use Rattle.call_contracts.proofs.Decided.{Storable, decided}

-- true counts of few opens have room for one more; past the end of the table there are none
counts_room : (limit : ℕ) (ss : List Stream) (os : List Open) → CountsTrue ss os → length os < limit
    → (o : Open) (s : StreamNo)
    → with_open_up_to limit o (stream_at ss s).counts ≡ with_open o (stream_at ss s).counts
unfolding live stream_at counts_of counts_of_all keep count
counts_room limit ss os c b o s =
    by_cases (ltb s.0 (length ss))
    (λ l.
    rw (c s (ltb-true s.0 (length ss) l))
    (up_to_counts limit (length os) b o s (keep open_used os) (omega (arith, length-keep open_used os, count_bound open_used os))))
    (λ l.
    rw (get_or_default ss _ (ltb-false s.0 (length ss) l))
    (up_to_counts limit (length os) b o s [] (omega arith)))

-- so the stream's counts become the same
recount-same : (limit : ℕ) (ss : List Stream) (os : List Open) → CountsTrue ss os → length os < limit → (o : Open) (s : StreamNo)
    → recount (with_open_up_to limit o) s ss ≡ recount (with_open o) s ss
unfolding recount
recount-same limit ss os c b o s = rw (counts_room limit ss os c b o s)

-- a handle that is not the last rises by one
raised_next : (next : ℕ) → Below 8 next → next ≢ last_handle → raised next ≡ suc next
unfolding raised
raised_next next b n = omega arith

module _ (t : Tables) (ok : Consistent t.volume t.opens) (r : Request) (units : List ℕ) (d : Decision)
    (e : decide (store_view t) (namespace t.volume) r units ≡ passed d)
  where
    storable : Storable (store_view t) d
    storable = decided (store_view t) (namespace t.volume) r units d (namespace_of ok) e

    pub names_stored : StoredNames d.placed.change
    names_stored = storable.names

    pub applied_is : Below 8 t.volume.next_handle.0 → (row : ℕ) → free_row t.opens.rows ≡ some row
        → applied t d row ≡ (opened t d).state
    unfolding applied open_stored opened volume_with_open rows_with_open changed_volume stored store_view
    applied_is b row free =
        λ i.
        record {
          volume =
              record {
                read_only = t.volume.read_only;
                next_handle = record { 0 = next i };
                files = (changed_volume d.placed.change t.volume).files;
                links = (changed_volume d.placed.change t.volume).links;
                streams = streams i;
              };
          opens = record { rows = rows i };
        }
      where
        next : raised d.handle.0 ≡ suc t.volume.next_handle.0
        next = rw storable.handle (raised_next t.volume.next_handle.0 b (eqb-false _ last_handle storable.not_last))

        ss : List Stream
        ss = (changed_volume d.placed.change t.volume).streams

        streams : recount (with_open_up_to count_limit (new_open d)) d.placed.stream ss ≡ recount (with_open (new_open d)) d.placed.stream ss
        streams =
            recount-same count_limit ss t.opens.rows
            (counts_written d.placed.change.streams t.volume.streams t.opens.rows ok.counts)
            (omega (arith, ok.opens.slots.size))
            (new_open d)
            d.placed.stream

        rows : set t.opens.rows row (new_open d) ≡ rows_with_open (new_open d) t.opens.rows
        rows = sym (ap (λ (place : Option ℕ). stored (new_open d) place t.opens.rows) free)
