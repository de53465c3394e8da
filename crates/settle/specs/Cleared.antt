-- A table cleared from its front, a record a turn: what is left of it from a place on. The links and the streams of a file
-- go so.
use Rattle.std.specs.Prelude.{◌∷◌, ◌+◌, ◌<◌, ◌≡◌, ◌≤◌}
use Rattle.base.{specs.Base.{ℕ, zero, suc, Bool, true, false, List, [], length, get_or, set, link_slots, stream_slots, zero_link, zero_stream, bare, Tables, FileNo, Link, Stream}, proofs.Laws.{refl, ap, arith}}
use native.Mathlib.Numerals.{add-one}
use Rattle.consistency.specs.Relations.{link_to, stream_of}
use Rattle.layout.{specs.Layout.decode, proofs.Lengths.{links_count, streams_count}}
use Rattle.store.specs.Close.{cleared}

module _ {A : Type 0} (p : A → Bool) (z : A) where
  -- the records from place i on that pass become z
  unfoldable pub cleared_from : ℕ → List A → List A
  cleared_from zero xs = cleared p z xs
  cleared_from (suc i) [] = []
  cleared_from (suc i) (x ∷ xs) = x ∷ cleared_from i xs

  -- one that passes and is cleared, and one that does not pass, are done with
  done : (xs : List A) (i : ℕ) (d : A) → i < length xs → p (get_or xs i d) ≡ true → cleared_from (suc i) (set xs i z) ≡ cleared_from i xs
  unfolding cleared cleared_from
  done [] i d b e = absurd (omega arith)
  done (x ∷ xs) zero d b e = rw (e)
  done (x ∷ xs) (suc i) d b e = ap (λ (r : List A). x ∷ r) (done xs i d (omega arith) e)

  passed : (xs : List A) (i : ℕ) (d : A) → i < length xs → p (get_or xs i d) ≡ false → cleared_from (suc i) xs ≡ cleared_from i xs
  unfolding cleared cleared_from
  passed [] i d b e = absurd (omega arith)
  passed (x ∷ xs) zero d b e = rw (e)
  passed (x ∷ xs) (suc i) d b e = ap (λ (r : List A). x ∷ r) (passed xs i d (omega arith) e)

  module _ (xs : List A) (i : ℕ) (d : A) (b : i < length xs) where
    pub cleared_here : p (get_or xs i d) ≡ true → cleared_from (i + 1) (set xs i z) ≡ cleared_from i xs
    cleared_here e = rw add-one (done xs i d b e)

    pub cleared_past : p (get_or xs i d) ≡ false → cleared_from (i + 1) xs ≡ cleared_from i xs
    cleared_past e = rw add-one (passed xs i d b e)

  -- at the end nothing is left
  pub cleared_end : (xs : List A) (i : ℕ) → length xs ≤ i → cleared_from i xs ≡ xs
  unfolding cleared cleared_from
  cleared_end [] zero b = refl
  cleared_end [] (suc i) b = refl
  cleared_end (x ∷ xs) zero b = absurd (omega arith)
  cleared_end (x ∷ xs) (suc i) b = ap (λ (r : List A). x ∷ r) (cleared_end xs i (omega arith))

-- slots freed in turn from the front, where `rest i f` says which are still to be: one whose record is the file's is freed, any
-- other stays, and after the last none is left
pub record FreedInTurn (slots : ℕ) (is_of : ℕ → FileNo → Tables → Bool) (freed : ℕ → Tables → Tables) (rest : ℕ → FileNo → Tables → Tables) : Type 0 where
  pub frees : (l : List ℕ) (f : FileNo) (i : ℕ) → i < slots → is_of i f (decode l) ≡ true → rest (i + 1) f (freed i (decode l)) ≡ rest i f (decode l)
  pub keeps : (l : List ℕ) (f : FileNo) (i : ℕ) → i < slots → is_of i f (decode l) ≡ false → rest (i + 1) f (decode l) ≡ rest i f (decode l)
  pub ends : (l : List ℕ) (f : FileNo) (i : ℕ) → slots ≤ i → rest i f (decode l) ≡ decode l

-- the tables with other links, and with other streams
abbrev pub with_links : Tables → List Link → Tables
with_links t ls =
    let v = t.volume in
    record {
      volume =
          record {
            read_only = v.read_only;
            next_handle = v.next_handle;
            files = v.files;
            links = ls;
            streams = v.streams;
          };
      opens = t.opens;
    }

abbrev pub with_streams : Tables → List Stream → Tables
with_streams t ss =
    let v = t.volume in
    record {
      volume =
          record {
            read_only = v.read_only;
            next_handle = v.next_handle;
            files = v.files;
            links = v.links;
            streams = ss;
          };
      opens = t.opens;
    }

-- the links
abbrev pub is_link_of : ℕ → FileNo → Tables → Bool
is_link_of i f t = link_to f (get_or t.volume.links i zero_link)

abbrev pub link_freed : ℕ → Tables → Tables
link_freed i t = with_links t (set t.volume.links i zero_link)

abbrev pub without_links : ℕ → FileNo → Tables → Tables
without_links i f t = with_links t (cleared_from (link_to f) zero_link i t.volume.links)

pub links_in_turn : FreedInTurn link_slots is_link_of link_freed without_links
links_in_turn = record {
  frees = λ l f i b e. let t = decode l in let n = links_count l in
      ap (with_links t) (cleared_here (link_to f) zero_link t.volume.links i zero_link (omega arith) e);
  keeps = λ l f i b e. let t = decode l in let n = links_count l in
      ap (with_links t) (cleared_past (link_to f) zero_link t.volume.links i zero_link (omega arith) e);
  ends = λ l f i b. let t = decode l in let n = links_count l in
      ap (with_links t) (cleared_end (link_to f) zero_link t.volume.links i (omega arith));
}

-- the streams
abbrev pub of : FileNo → Stream → Bool
of f s = stream_of f (bare s)

abbrev pub is_stream_of : ℕ → FileNo → Tables → Bool
is_stream_of i f t = of f (get_or t.volume.streams i zero_stream)

abbrev pub stream_freed : ℕ → Tables → Tables
stream_freed i t = with_streams t (set t.volume.streams i zero_stream)

abbrev pub without_streams : ℕ → FileNo → Tables → Tables
without_streams i f t = with_streams t (cleared_from (of f) zero_stream i t.volume.streams)

pub streams_in_turn : FreedInTurn stream_slots is_stream_of stream_freed without_streams
streams_in_turn = record {
  frees = λ l f i b e. let t = decode l in let n = streams_count l in
      ap (with_streams t) (cleared_here (of f) zero_stream t.volume.streams i zero_stream (omega arith) e);
  keeps = λ l f i b e. let t = decode l in let n = streams_count l in
      ap (with_streams t) (cleared_past (of f) zero_stream t.volume.streams i zero_stream (omega arith) e);
  ends = λ l f i b. let t = decode l in let n = streams_count l in
      ap (with_streams t) (cleared_end (of f) zero_stream t.volume.streams i (omega arith));
}
