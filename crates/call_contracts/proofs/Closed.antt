-- A close and a switch as the writes make them: the open of a handle is the one in the row where the search finds it.
use Rattle.base.{specs.Base.{ℕ, ◌≡◌, Bool, false, List, [], ◌∷◌, Option, none, some, get_or, find, first, any, zero_open, passed, refuse, some_or, Tables, Handle, InvalidHandle}, proofs.Laws.{refl, sym, ◌∙◌, ap, some_injective, none≢some, by_cases, none_iff, after_found, find_here, find_next, find_found}}
use Rattle.apply.specs.Applied.{struck_from}
use Rattle.layout.specs.Puts.{put_mark}
use Rattle.open_table.specs.Rows.{has_handle}
use Rattle.store.{specs.{Close.decide_close, Store.{store_view, stored, rows_without_open, volume_without_open, struck, volume_marked}}, proofs.Sequences.Opens.Close.handle_is}
use Rattle.tables.specs.Tables.{row_at}

-- the first element that passes stands at the first place that passes
module _ {A : Type 0} (p : A → Bool) where
  none_passes : (xs : List A) → find p xs ≡ none → any p xs ≡ false
  unfolding any find
  none_passes [] e = refl
  none_passes (x ∷ xs) e =
      by_cases (p x) (λ y. absurd (none≢some (sym e ∙ find_here p x xs y)))
      (λ n. rw n (none_passes xs (sym (find_next p x xs n) ∙ e)))

  first_there : (d : A) (xs : List A) (k : ℕ) → first p xs ≡ some k → find p xs ≡ some (get_or xs k d)
  first_there d xs k h = go (find p xs) refl
    where
      go : (o : Option A) → find p xs ≡ o → find p xs ≡ some (get_or xs k d)
      go none e = absurd (none≢some (sym ((none_iff p xs).0 (none_passes xs e)) ∙ h))
      go (some x) e =
          let q = find_found p d xs x e in
          let same = some_injective q.0 k (sym q.1 ∙ h) in
          e ∙ ap some (sym q.2 ∙ ap (λ (i : ℕ). get_or xs i d) same)

  first_nowhere : (xs : List A) → first p xs ≡ none → find p xs ≡ none
  first_nowhere xs h = go (find p xs) refl
    where
      go : (o : Option A) → find p xs ≡ o → find p xs ≡ none
      go none e = e
      go (some x) e = absurd (none≢some (sym h ∙ (find_found p x xs x e).1))

module _ (t : Tables) (h : Handle) where
  pub close_none : first (has_handle h) t.opens.rows ≡ none → decide_close (store_view t) h ≡ refuse InvalidHandle
  unfolding decide_close store_view some_or
  close_none e = rw (first_nowhere (has_handle h) t.opens.rows e)

  module _ (row : ℕ) (found : first (has_handle h) t.opens.rows ≡ some row) where
    pub close_found : decide_close (store_view t) h ≡ passed (row_at t.opens row)
    unfolding decide_close store_view some_or row_at
    close_found = rw (first_there (has_handle h) zero_open t.opens.rows row found)

    -- the row's own handle is the one that was asked for
    own_handle : (row_at t.opens row).handle ≡ h
    unfolding row_at
    own_handle = handle_is h _ (after_found (has_handle h) zero_open t.opens.rows 0 row found).passes

    -- what is struck is what the definition strikes
    pub struck_is : struck t (row_at t.opens row) ≡ struck_from t row zero_open
    unfolding struck volume_without_open rows_without_open stored struck_from
    struck_is = rw (own_handle, found)

-- the switch writes the mark
pub marked_is : (t : Tables) (read_only : Bool)
    → record { volume = volume_marked read_only t.volume; opens = t.opens } ≡ put_mark t read_only
unfolding volume_marked
marked_is t read_only = refl
