-- The names of a volume after a close are those that the model has then.
use Rattle.base.{specs.Base.{◌≡◌, List, [], ◌∷◌, map, set, get_or, zero_bare, zero_stream, BareStream, bare, with_counts, namespace, Stream, Volume, FileNo}, proofs.Laws.{refl, sym, ◌∙◌, ap, by_cases, map-set, get_or_map}}
use Rattle.consistency.specs.Relations.{stream_of}
use Rattle.store.specs.{Close.{CloseEffect, unchanged, file_marked, file_removed, stream_marked, stream_removed, cleared, marked_bare, files_after, links_after, streams_after, namespace_after}, Store.{marked_stream, volume_after}}

cleared-bare : (f : FileNo) (ss : List Stream)
    → map bare (cleared (λ s. stream_of f (bare s)) zero_stream ss) ≡ cleared (stream_of f) zero_bare (map bare ss)
unfolding cleared bare
cleared-bare f [] = refl
cleared-bare f (s ∷ ss) =
    by_cases (stream_of f (bare s)) (λ e. rw (e, cleared-bare f ss)) (λ e. rw (e, cleared-bare f ss))

streams_bare : (e : CloseEffect) (ss : List Stream)
    → map bare (streams_after bare zero_stream marked_stream e ss) ≡ streams_after (λ s. s) zero_bare marked_bare e (map bare ss)
unfolding streams_after marked_stream bare with_counts marked_bare
streams_bare unchanged ss = refl
streams_bare (file_marked f) ss = refl
streams_bare (file_removed f) ss = cleared-bare f ss
streams_bare (stream_marked s) ss =
    map-set bare ss s.0 (marked_stream (get_or ss s.0 zero_stream))
    ∙ ap (λ (b : BareStream). set (map bare ss) s.0 (marked_bare b)) (sym (get_or_map bare ss s.0 zero_stream))
streams_bare (stream_removed s) ss = map-set bare ss s.0 zero_stream

pub names_after : (e : CloseEffect) (v : Volume) → namespace (volume_after e v) ≡ namespace_after e (namespace v)
unfolding namespace volume_after namespace_after
names_after e v =
    ap
    (λ (bs : List BareStream).
    record { read_only = v.read_only; files = files_after e v.files; links = links_after e v.links; streams = bs })
    (streams_bare e v.streams)
