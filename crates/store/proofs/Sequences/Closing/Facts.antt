-- Consistent tables from which an open is struck: what holds before its file and stream are looked at, and what follows
-- when one of them is marked or goes.
use Rattle.base.{specs.Base.{ℕ, ◌<◌, ◌≡◌, Bool, true, false, not, ◌&&◌, ◌||◌, List, ◌≢◌, eqb, length, is_empty, root, is_used, file_used, Namespace, bare_at, FileNo, StreamNo, Open}, proofs.Laws.{sym, ◌∙◌, ap, ⊎_elim, not_both, not_is, excluded, not-false, not-true, and_left, and_right, or_cases, or_left, by_cases, fails_iff}}
use Rattle.consistency.{specs.{Relations.{type_at, has_children}, Consistent.{GoodOpenOf, OpensConsistent, MarksHeld}}, proofs.{Derived.stream_good, Numbered.{file_in, file_iff, stream_iff}, Streams.stream_in}}
use Rattle.stored_names.specs.StoredNames.{units}
use Rattle.tables.specs.Tables.{file_at, file_has_open, stream_has_open}
use Rattle.store.proofs.Sequences.Facts.{NamespaceConsistent}
use Rattle.store.specs.Close.{of_named_stream, marks_file, marks_stream}

-- marks are held by a live open, but for those of the open's own file and stream
pub record AfterStrike (ns : Namespace) (next : ℕ) (os : List Open) (o : Open) : Type 0 where
  pub names : NamespaceConsistent ns
  pub opens : OpensConsistent ns.streams next os
  pub good : GoodOpenOf ns.streams next o
  pub other_files : (f : FileNo) → f ≢ o.file → (file_at ns.files f).delete_pending ≡ true → file_has_open os f ≡ true
  pub other_streams : (s : StreamNo) → s ≢ o.stream → (bare_at ns.streams s).delete_pending ≡ true → stream_has_open os s ≡ true

-- the same once its file and stream are looked at
pub record Settled (ns : Namespace) (next : ℕ) (os : List Open) : Type 0 where
  pub names : NamespaceConsistent ns
  pub opens : OpensConsistent ns.streams next os
  pub held : MarksHeld ns.files ns.streams os

-- a number is that of the open's file or stream, or another
pub file-cases : {P : Type 0} (f g : FileNo) → (f ≡ g → P) → (f ≢ g → P) → P
file-cases f g same other =
    by_cases (eqb f.0 g.0) (λ e. same ((file_iff f g).0 e)) (λ e. other ((fails_iff (file_iff f g)).0 e))

pub stream-cases : {P : Type 0} (s t : StreamNo) → (s ≡ t → P) → (s ≢ t → P) → P
stream-cases s t same other =
    by_cases (eqb s.0 t.0) (λ e. same ((stream_iff s t).0 e)) (λ e. other ((fails_iff (stream_iff s t)).0 e))

-- the file, the stream is marked or about to be: it goes with its last open
abbrev pub file_goes : Namespace → Open → Bool
file_goes ns o = (file_at ns.files o.file).delete_pending || marks_file ns o

abbrev pub stream_goes : Namespace → Open → Bool
stream_goes ns o = (bare_at ns.streams o.stream).delete_pending || marks_stream ns o

module _ {ns : Namespace} {next : ℕ} {os : List Open} {o : Open} (a : AfterStrike ns next os o) where
  -- the open's file and stream are there
  pub stream_below : o.stream.0 < length ns.streams
  stream_below = stream_in ns.streams o.stream a.good.names_used_stream

  pub file_used_lem : file_used (file_at ns.files o.file) ≡ true
  unfolding file_used
  file_used_lem =
      ap (λ (f : FileNo). is_used (type_at ns.files f)) a.good.names_its_file
      ∙ (stream_good a.names.streams o.stream a.good.names_used_stream).names_used_file

  pub file_below : o.file.0 < length ns.files
  file_below = file_in ns.files o.file file_used_lem

  -- a file that goes is not the root and has no children
  pub goes_not_root : file_goes ns o ≡ true → o.file ≢ root
  unfolding marks_file
  goes_not_root g =
      ⊎_elim (λ p e. not_both p (ap (λ (f : FileNo). (file_at ns.files f).delete_pending) e ∙ a.names.marks.root_unmarked))
      (λ m. a.good.root_stays (and_left o.delete_on_close _ (and_left _ (not (has_children ns.links o.file)) m)))
      (or_cases (file_at ns.files o.file).delete_pending (marks_file ns o) g)

  pub goes_childless : file_goes ns o ≡ true → has_children ns.links o.file ≡ false
  unfolding marks_file
  goes_childless g =
      ⊎_elim (a.names.marks.marked_childless o.file)
      (λ m. not-true (has_children ns.links o.file) (and_right (o.delete_on_close && not (of_named_stream ns o)) _ m))
      (or_cases (file_at ns.files o.file).delete_pending (marks_file ns o) g)

  -- a stream that goes is a named one
  pub goes_named : stream_goes ns o ≡ true → is_empty (units (bare_at ns.streams o.stream).name) ≡ false
  unfolding marks_stream of_named_stream
  goes_named g =
      ⊎_elim (stream_good a.names.streams o.stream a.good.names_used_stream).marked_named
      (λ m. not-true _ (and_right o.delete_on_close _ m))
      (or_cases (bare_at ns.streams o.stream).delete_pending (marks_stream ns o) g)

-- what is marked and does not go has an open
open_kept : (a b : Bool) → (a && not b) ≡ false → a ≡ true → b ≡ true
open_kept a b h e = not-false b (excluded a (not b) (not_is h) e)

-- the file does not go: marks of files are held, also where it is marked now
module _ {ns : Namespace} {next : ℕ} {os : List Open} {o : Open} (a : AfterStrike ns next os o)
    (stays : (file_goes ns o && not (file_has_open os o.file)) ≡ false) where
  pub marked-held : file_goes ns o ≡ true → file_has_open os o.file ≡ true
  marked-held = open_kept (file_goes ns o) (file_has_open os o.file) stays

  pub files_held : (f : FileNo) → (file_at ns.files f).delete_pending ≡ true → file_has_open os f ≡ true
  files_held f p =
      file-cases f o.file
      (λ e.
      ap (file_has_open os) e
      ∙ marked-held (or_left (marks_file ns o) (ap (λ (g : FileNo). (file_at ns.files g).delete_pending) (sym e) ∙ p)))
      (λ n. a.other_files f n p)

-- the same of streams
module _ {ns : Namespace} {next : ℕ} {os : List Open} {o : Open} (a : AfterStrike ns next os o)
    (stays : (stream_goes ns o && not (stream_has_open os o.stream)) ≡ false) where
  pub marked_stream_held : stream_goes ns o ≡ true → stream_has_open os o.stream ≡ true
  marked_stream_held = open_kept (stream_goes ns o) (stream_has_open os o.stream) stays

  pub streams_held : (s : StreamNo) → (bare_at ns.streams s).delete_pending ≡ true → stream_has_open os s ≡ true
  streams_held s p =
      stream-cases s o.stream
      (λ e.
      ap (stream_has_open os) e
      ∙ marked_stream_held (or_left (marks_stream ns o) (ap (λ (t : StreamNo). (bare_at ns.streams t).delete_pending) (sym e) ∙ p)))
      (λ n. a.other_streams s n p)
