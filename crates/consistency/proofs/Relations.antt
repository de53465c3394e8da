-- What the tests on a file's links and streams decide.
use Rattle.base.{specs.Base.{ℕ, ◌≡◌, true, List, [], ◌↔◌, is_empty, link_used, BareStream, bare_used, FileNo, Link}, proofs.Laws.{ap, and_iff, empty_is}}
use Rattle.stored_names.specs.StoredNames.{units}
use Rattle.consistency.proofs.Numbered.{file_iff}
use Rattle.consistency.specs.Relations.{link_to, child_of, stream_of, unnamed_of}

pub link_to_iff : (f : FileNo) (l : Link) → (link_to f l ≡ true) ↔ ((link_used l ≡ true) × (l.file ≡ f))
unfolding link_to
link_to_iff f l = (λ h. simp (link_to, and_iff, file_iff) at h, λ h. simp (link_to, and_iff, file_iff) h)

pub child_of_iff : (f : FileNo) (l : Link) → (child_of f l ≡ true) ↔ ((link_used l ≡ true) × (l.parent ≡ f))
unfolding child_of
child_of_iff f l = (λ h. simp (child_of, and_iff, file_iff) at h, λ h. simp (child_of, and_iff, file_iff) h)

pub stream_of_iff : (f : FileNo) (s : BareStream) → (stream_of f s ≡ true) ↔ ((bare_used s ≡ true) × (s.file ≡ f))
unfolding stream_of
stream_of_iff f s = (λ h. simp (stream_of, and_iff, file_iff) at h, λ h. simp (stream_of, and_iff, file_iff) h)

empty_iff : (xs : List ℕ) → (is_empty xs ≡ true) ↔ (xs ≡ [])
unfolding is_empty
empty_iff xs = (empty_is xs, λ e. ap is_empty e)

pub unnamed_iff : (f : FileNo) (s : BareStream) → (unnamed_of f s ≡ true) ↔ ((stream_of f s ≡ true) × (units s.name ≡ []))
unfolding unnamed_of
unnamed_iff f s = (λ h. simp (unnamed_of, and_iff, empty_iff) at h, λ h. simp (unnamed_of, and_iff, empty_iff) h)
