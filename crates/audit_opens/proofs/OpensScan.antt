-- The pass over the open table from its last row: each row passes its test, and its key is its handle. And what the pass
-- says of the whole test.
use Rattle.base.{specs.Base.{ℕ, ◌-◌, ◌<◌, ◌≡◌, Bool, true, false, ◌&&◌, List, [], map, length, get_or, set, replicate, all, keep, pairs, open_slots, open_used, BareStream, bare, bare_used, zero_open, FileType, FileNo, Stream, Open}, proofs.Laws.{refl, sym, ◌∙◌, ap, arith, eq-eqb, le-leb, Scanned, scan_none, scan_fails, scan_back, scan_end}}
use Rattle.consistency.{specs.{Slots.{slot_test, slots_test}, Good.{good_open, is_zero_open, handles_differ}, Test.{good_open_of, opens_test}}, proofs.Derived.bare_at_lem}
use Rattle.distinct.{specs.Keys.{is_key, differ}, proofs.Tells.keys_pairs}
use Rattle.tables.specs.Tables.{stream_at, live}

abbrev pub handle_no : Open → ℕ
handle_no o = o.handle.0

module _ (ss : List Stream) (next : ℕ) where
  -- a row, used or free
  abbrev pub open_test : Open → Bool
  open_test = slot_test open_used (good_open_of (map bare ss) next) is_zero_open

  -- it looks at the kind and the file of the stream that the row names; found of what was read
  pub row_found : (o : Open) {kind : FileType} {file : FileNo} {n : ℕ} {found b : Bool}
      → kind ≡ (stream_at ss o.stream).stream_type → file ≡ (stream_at ss o.stream).file → n ≡ next
      → found ≡ slot_test open_used (good_open (record { file = file; stream_type = kind; name = []; delete_pending = false }) n) is_zero_open o
      → found ≡ b → open_test o ≡ b
  unfolding good_open bare_used bare
  row_found o {kind} {file} {n} k f h e r =
      ap (λ (s : BareStream). slot_test open_used (good_open s next) is_zero_open o) (bare_at_lem ss o.stream)
      ∙ rw (← k, ← f, ← h) (sym e ∙ r)

  abbrev pub rows_test : List Open → Bool
  rows_test rows = opens_test (map bare ss) next rows

  pub rows_none : (rows : List Open) → next ≡ 0 → rows_test rows ≡ false
  unfolding opens_test
  rows_none rows e = rw (opens_test, e)

  module _ (rows : List Open) (long : length rows ≡ open_slots) where
    pub pass_begins : Scanned open_test handle_no rows (replicate open_slots 0) open_slots
    pass_begins = scan_none open_test handle_no rows (replicate open_slots 0) open_slots refl long

    -- one row more, as it was read
    module _ {keys : List ℕ} (i : ℕ) (positive : 0 < i) (pass : Scanned open_test handle_no rows keys i)
        {o : Open} (read : o ≡ get_or rows (i - 1) zero_open) where
      pub pass_fails : open_test o ≡ false → all open_test rows ≡ false
      pass_fails e = scan_fails open_test handle_no rows keys i zero_open positive pass (rw read at e)

      pub pass_goes : open_test o ≡ true → Scanned open_test handle_no rows (set keys (i - 1) (handle_no o)) (i - 1)
      pass_goes passes =
          scan_back open_test handle_no rows keys i zero_open positive pass (rw read at passes) (ap handle_no read)

    module _ (given : 0 < next) where
      opens_are : opens_test (map bare ss) next rows ≡ (all open_test rows && pairs handles_differ (live rows))
      unfolding opens_test slots_test
      opens_are = rw (opens_test, eq-eqb (length rows) open_slots long, le-leb 1 next (omega arith))

      pub rows_fail : all open_test rows ≡ false → rows_test rows ≡ false
      rows_fail e = rw (opens_are, e)

      module _ {keys : List ℕ} {i : ℕ} (end : i ≡ 0) (pass : Scanned open_test handle_no rows keys i) where
        handles_are : pairs differ (keep is_key keys) ≡ pairs handles_differ (live rows)
        unfolding live handles_differ differ is_key open_used
        handles_are =
            ap (λ (ks : List ℕ). pairs differ (keep is_key ks)) (scan_end open_test handle_no rows end pass).1
            ∙ keys_pairs handle_no open_used (λ o. refl) rows

        pub pass_ends : rows_test rows ≡ pairs differ (keep is_key keys)
        pass_ends = rw (opens_are, (scan_end open_test handle_no rows end pass).0, handles_are)
