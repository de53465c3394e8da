-- The share counts stay true: an open joins or leaves, and a change leaves them.
use Rattle.base.{specs.Base.{◌<◌, ℕ, any, BareStream, bare, with_counts, open_used, zero_counts, zero_open, zero_stream, Open, ShareCounts, Stream, StreamNo, get_or, length, set, false, not, true, List, [], ◌∷◌, map, ◌≡◌}, proofs.Laws.{set_cases, eq-eqb, ne_eqb, get_or_map, length-map, length-set, ⊎_elim, ◌∙◌, ap, refl, sym, arith}}
use lib.Seq.{map-set_same}
use Rattle.consistency.specs.Consistent.{CountsTrue, open_at}
use Rattle.sharing.{proofs.Counts.{counts_cons, counts_less, counts_perm, counts_skip}, specs.Sharing.{counts_of, on_stream, with_open, without_open}}
use Rattle.tables.specs.Tables.{stream_at, live}
use Rattle.store.proofs.Sequences.Opens.{Join.joined-live, Leave.left-live}
use Rattle.store.specs.Store.{recount, rows_with_open, write_streams}

pub length-recount : (f : ShareCounts → ShareCounts) (s : StreamNo) (ss : List Stream) → length (recount f s ss) ≡ length ss
unfolding recount
length-recount f s ss = length-set ss s.0 _

-- a stream's counts become what f makes of them, and the other streams' stay: so do those of the opens
pub counts-recount : (f : ShareCounts → ShareCounts) (t : StreamNo) (ss : List Stream) (os os' : List Open) → t.0 < length ss
    → ((s : StreamNo) → s.0 ≡ t.0 → f (counts_of s (live os)) ≡ counts_of s (live os'))
    → ((s : StreamNo) → (s.0 ≡ t.0 → ⊥) → counts_of s (live os) ≡ counts_of s (live os'))
    → CountsTrue ss os → CountsTrue (recount f t ss) os'
unfolding recount stream_at with_counts
counts-recount f t ss os os' b same other c s l =
    ⊎_elim
    (λ h.
    ap (λ (x : Stream). x.counts) h.1
    ∙ ap f (ap (λ (n : ℕ). (get_or ss n zero_stream).counts) (sym h.0) ∙ c s (omega (arith, h.0)))
    ∙ same s h.0)
    (λ h. ap (λ (x : Stream). x.counts) h.1 ∙ c s (omega (arith, length-recount f t ss)) ∙ other s h.0)
    (set_cases ss t.0 s.0 (with_counts (bare (stream_at ss t)) (f (stream_at ss t).counts)) zero_stream b)

on-stream : (s : StreamNo) (o : Open) → s.0 ≡ o.stream.0 → on_stream s o ≡ true
unfolding on_stream
on-stream s o e = eq-eqb o.stream.0 s.0 (sym e)

off_stream : (s : StreamNo) (o : Open) → (s.0 ≡ o.stream.0 → ⊥) → on_stream s o ≡ false
unfolding on_stream
off_stream s o n = ne_eqb o.stream.0 s.0 (λ e. n (sym e))

pub counts-joined : (o : Open) (ss : List Stream) (os : List Open) → o.stream.0 < length ss → open_used o ≡ true
    → any (λ q. not (open_used q)) os ≡ true
    → CountsTrue ss os → CountsTrue (recount (with_open o) o.stream ss) (rows_with_open o os)
counts-joined o ss os b u r =
    let p = joined-live o os r u in
    counts-recount (with_open o) o.stream ss os (rows_with_open o os) b
    (λ s e. sym (counts_perm p s ∙ counts_cons s o (live os) (on-stream s o e)))
    (λ s n. sym (counts_perm p s ∙ counts_skip s o (live os) (off_stream s o n)))

pub counts-left : (ss : List Stream) (os : List Open) (i : ℕ) → i < length os → open_used (open_at os i) ≡ true
    → (open_at os i).stream.0 < length ss
    → CountsTrue ss os → CountsTrue (recount (without_open (open_at os i)) (open_at os i).stream ss) (set os i zero_open)
counts-left ss os i l u b =
    let o : Open = open_at os i in
    let rest : List Open = live (set os i zero_open) in
    let p = left-live os i l u in
    counts-recount (without_open o) o.stream ss os (set os i zero_open) b
    (λ s e. ap (without_open o) (counts_perm p s) ∙ counts_less s o rest (on-stream s o e))
    (λ s n. counts_perm p s ∙ counts_skip s o rest (off_stream s o n))

-- a change leaves the counts of each slot
counts_stay : (ws : List (StreamNo × BareStream)) (ss : List Stream)
    → map (λ (s : Stream). s.counts) (write_streams ws ss) ≡ map (λ (s : Stream). s.counts) ss
unfolding write_streams with_counts stream_at
counts_stay [] ss = refl
counts_stay (w ∷ ws) ss = counts_stay ws _ ∙ map-set_same (λ (s : Stream). s.counts) ss w.0.0 _ zero_stream refl

pub counts_written : (ws : List (StreamNo × BareStream)) (ss : List Stream) (os : List Open) → CountsTrue ss os
    → CountsTrue (write_streams ws ss) os
unfolding stream_at
counts_written ws ss os c s l =
    let same = counts_stay ws ss in
    let at : (ts : List Stream) → get_or (map (λ (t : Stream). t.counts) ts) s.0 zero_counts ≡ (get_or ts s.0 zero_stream).counts =
    λ ts. get_or_map (λ (t : Stream). t.counts) ts s.0 zero_stream in
    sym (at (write_streams ws ss)) ∙ ap (λ (cs : List ShareCounts). get_or cs s.0 zero_counts) same ∙ at ss
    ∙ c s (omega (arith, ap length same, length-map (write_streams ws ss) (λ (t : Stream). t.counts), length-map ss (λ (t : Stream). t.counts)))
