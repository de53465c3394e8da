use Rattle.base.{specs.Base.{ℕ, ◌≡◌, inl, inr, get_or, is_empty, stream_name_limit, stream_used, zero_bare, bare, bare_at, bare_used, List, File, Stream, true}, proofs.Laws.{refl, sym, ◌∙◌, arith, rules}}
use Rattle.layout.{specs.Layout.decode, proofs.Lengths.files_count}
use Rattle.tables.specs.Tables.{stream_at}
use Rattle.stored_names.specs.StoredNames.{units}
use Rattle.name_keys.proofs.Weights.{key_used, key_free}
use Rattle.audit_streams.proofs.{Streams.{streams, streams_long, stream_read}, Pass.{stream_test, stream_key, name_stored_lem, pass_begins, every_room, unnamed_room, pass_fails, pass_skips, pass_adds, names_settled, names_fail, pass_ends}}
use Rattle.audit_streams.proofs.streams_consistent.Goals as goal
use Rattle.audit_streams.proofs.streams_consistent.Goals.{After-slot_consistent, Joined-used, then-used, else-used, else-used-2-via-then-used-2+else-f-lt-FILE_SLOTS, else-used-2-via-else-used-2, else-not-distinct-via-then-not-distinct+else-not-names_differ, else-not-distinct-via-else-not-distinct}

pub loop-i-init : goal.loop-i-init
loop-i-init c = let b = c.args.b.now in pass_begins (decode b).volume.files (streams b) _ (streams_long b) refl

-- the stream that was read is the one at its place
here : (b : List ℕ) {s : Stream} (i : ℕ) → s ≡ stream_at (decode b).volume.streams (record { 0 = i }) → bare s ≡ get_or (streams b) i zero_bare
unfolding bare_at
here b i e = stream_read _ _ e

-- it was tested with the type of its file
tested : (c : After-slot_consistent) →
    let s = c in
    let b = s.args.b.now in
    c.slot_consistent.result ≡ stream_test (decode b).volume.files (bare s.read_stream-s.result)
unfolding bare
tested c = rw (← c.read_file_type.ensures) c.slot_consistent.ensures

-- it passes, and its key is kept
module _ (c : Joined-used) where
  abbrev stream : Stream
  stream = c.read_stream-s.result

  abbrev files : List File
  files = (decode c.args.b.now).volume.files

  passes : stream_test files (bare stream) ≡ true
  unfolding bare
  passes = rw (← c.read_file_type.ensures) (sym c.slot_consistent.ensures ∙ c.if-not-slot_consistent.false)

  used_is : c.stream_used-used.result ≡ bare_used (bare stream)
  unfolding bare bare_used stream_used
  used_is = c.stream_used-used.ensures

  key : c.if-used.keys ≡ stream_key (bare stream)
  unfolding bare
  key = elim c.if-used.branch [
    | then-used w ↦
        let u = sym used_is ∙ w.if-used.true in
        w.keys-is ∙ w.name_key.ensures ∙ key_used stream_name_limit u stream.file.0 stream.name (search rules) (name_stored_lem files (bare stream) u passes)
    | else-used w ↦ w.keys-is ∙ key_free (sym used_is ∙ w.if-used.false) stream.file.0 (units stream.name)
  ]

pub returns-then-not-slot_consistent : goal.returns-then-not-slot_consistent
returns-then-not-slot_consistent c =
    sym
    (pass_fails c.loop-i.invariant (omega arith) (bare c.read_stream-s.result) (here _ _ c.read_stream-s.ensures)
    (sym (tested (goal.at.returns-then-not-slot_consistent c).After-slot_consistent) ∙ c.if-not-slot_consistent.true))

pub overflow_add-all : goal.overflow_add-all
overflow_add-all c =
    let room = every_room c.loop-i.invariant c.read_stream-s.result.file.0 c.if-f-lt-FILE_SLOTS.true in
    record { fits = omega arith }

pub overflow_add-unnamed : goal.overflow_add-unnamed
overflow_add-unnamed c =
    let room =
    unnamed_room c.loop-i.invariant c.read_stream-s.result.file.0 c.if-f-lt-FILE_SLOTS.true
    (is_empty (units c.read_stream-s.result.name)) in
    record { fits = omega (arith, c.one_if_unnamed.ensures) }

pub loop-i-preserved-then-f-lt-FILE_SLOTS : goal.loop-i-preserved-then-f-lt-FILE_SLOTS
unfolding bare
loop-i-preserved-then-f-lt-FILE_SLOTS c =
    let k = (goal.at.loop-i-preserved-then-f-lt-FILE_SLOTS c).Joined-used in
    pass_adds c.loop-i.invariant (omega arith) (bare (stream k)) (here _ _ c.read_stream-s.ensures) (passes k) (key k)
    (sym (used_is k) ∙ c.if-used-2.true) c.if-f-lt-FILE_SLOTS.true
    c.one_if_unnamed.ensures

pub loop-i-preserved : goal.loop-i-preserved
unfolding bare
loop-i-preserved c =
    let k = (goal.at.loop-i-preserved c).Joined-used in
    pass_skips c.loop-i.invariant (omega arith) (bare (stream k)) (here _ _ c.read_stream-s.ensures) (passes k) (key k)
    (elim c.else-used-2.branch [
      | else-used-2-via-then-used-2+else-f-lt-FILE_SLOTS w ↦ inr w.if-f-lt-FILE_SLOTS.false
      | else-used-2-via-else-used-2 w ↦ inl (sym (used_is k) ∙ w.if-used-2.false)
    ])

pub slice_bounds-distinct-end : goal.slice_bounds-distinct-end
slice_bounds-distinct-end c =
    let l = c in
    sym (l.loop-i.invariant.scanned.size ∙ l.loop-i.invariant.long)

pub returns-then-not-names_differ : goal.returns-then-not-names_differ
returns-then-not-names_differ c =
    let l = c in
    sym
    (names_fail l.loop-i.invariant (omega arith)
    (sym c.names_differ.ensures ∙ c.if-not-names_differ.true))

pub returns : goal.returns
returns c =
    pass_ends c.loop-i.invariant (omega arith) (files_count c.args.b.now)
    (elim c.else-not-distinct.branch [
      | else-not-distinct-via-then-not-distinct+else-not-names_differ w ↦ sym w.names_differ.ensures ∙ w.if-not-names_differ.false
      | else-not-distinct-via-else-not-distinct w ↦ names_settled c.loop-i.invariant (omega arith) (sym c.distinct.ensures ∙ w.if-not-distinct.false)
    ])
    c.files_have_streams.ensures
