-- Opens come and go and the names stay; a change of the volume is the change of its names.
use Rattle.base.{specs.Base.{true, ◌<◌, ◌≡◌, List, [], ◌∷◌, map, length, writes, zero_stream, Namespace, BareStream, bare_used, bare_at, bare, with_counts, namespace, StreamNo, Handle, ShareCounts, Stream, Open, Volume}, proofs.Laws.{refl, ap, ◌∙◌, arith, length-map, map-set}}
use lib.Seq.{map-set_same}
use Rattle.consistency.proofs.Streams.{stream_in}
use Rattle.tables.specs.Tables.{stream_at}
use Rattle.store.specs.{Complete.{Change, changed}, Store.{changed_volume, recount, volume_with_open, volume_without_open, write_streams}}

-- a used stream stands below the end
pub used_below : (ss : List Stream) (s : StreamNo) → bare_used (bare_at (map bare ss) s) ≡ true → s.0 < length ss
used_below ss s u = omega (arith, stream_in (map bare ss) s u, length-map ss bare)

pub recount-bare : (f : ShareCounts → ShareCounts) (s : StreamNo) (ss : List Stream) → map bare (recount f s ss) ≡ map bare ss
unfolding recount stream_at bare with_counts
recount-bare f s ss = map-set_same bare ss s.0 _ zero_stream refl

-- names do not look at share counts and the next handle: whatever these become, the names stay
recounted_names : (f : ShareCounts → ShareCounts) (s : StreamNo) (next : Handle) (v : Volume)
    → Path Namespace
    (namespace
    (record {
      read_only = v.read_only;
      next_handle = next;
      files = v.files;
      links = v.links;
      streams = recount f s v.streams;
    }))
    (namespace v)
unfolding namespace
recounted_names f s next v =
    ap
    (λ (bs : List BareStream).
    record { read_only = v.read_only; files = v.files; links = v.links; streams = bs })
    (recount-bare f s v.streams)

pub with_open_names : (o : Open) (v : Volume) → namespace (volume_with_open o v) ≡ namespace v
unfolding volume_with_open
with_open_names o v = recounted_names _ _ _ v

pub without_open_names : (o : Open) (v : Volume) → namespace (volume_without_open o v) ≡ namespace v
unfolding volume_without_open
without_open_names o v = recounted_names _ _ _ v

-- the streams that a change writes, without their counts
pub written_bare : (ws : List (StreamNo × BareStream)) (ss : List Stream)
    → map bare (write_streams ws ss) ≡ writes (λ (n : StreamNo). n.0) ws (map bare ss)
unfolding write_streams writes bare with_counts
written_bare [] ss = refl
written_bare (w ∷ ws) ss =
    written_bare ws _ ∙ ap (λ (bs : List BareStream). writes (λ (n : StreamNo). n.0) ws bs) (map-set bare ss w.0.0 _)

pub changed_names : (c : Change) (v : Volume) → namespace (changed_volume c v) ≡ changed c (namespace v)
unfolding namespace changed_volume changed
changed_names c v =
    ap
    (λ (bs : List BareStream).
    record {
      read_only = v.read_only;
      files = writes (λ n. n.0) c.files v.files;
      links = writes (λ n. n.0) c.links v.links;
      streams = bs;
    })
    (written_bare c.streams v.streams)
