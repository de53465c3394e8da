-- The streams that step 12 makes: a named one of a data file, and the unnamed one of a new file.
use Rattle.base.{specs.Base.{ℕ, ◌+◌, ◌≡◌, Bool, true, false, List, [], ◌≢◌, all, count, is_empty, padded, stream_name_limit, is_used, is_directory, file_used, BareStream, zero_bare, bare_used, bare_at, FileType, FileNo, StreamNo, File}, proofs.Laws.{false≢true, refl, sym, ◌∙◌, ap, ℕ_discrete, not_both, one, refuted, count_none, one_before, one_added}}
use Rattle.consistency.{specs.{Relations.{type_at, stream_of, unnamed_of}, Consistent.StreamsConsistent}, proofs.{Numbered.same-file, Relations.{stream_of_iff, unnamed_iff}, Derived.stream_good}}
use Rattle.names.specs.{Names.{valid_units, valid_stream_name}, declared.NameKind.TheVariants.StreamName}
use Rattle.stored_names.{specs.StoredNames.units, proofs.Padded.{units-padded, padded-stored}}
use Rattle.tables.specs.Tables.{file_at}
use Rattle.store.proofs.Sequences.Changes.{Files.{FileAdded, not_added, used_before}, Streams.StreamSound}
use Rattle.store.specs.Complete.{stream_new}

-- what a stream made for a file asks beside the counts
pub record StreamMade (fs : List File) (ss : List BareStream) (f : FileNo) (type : FileType) (name : List ℕ) : Type 0 where
  pub used : is_used type ≡ true
  pub agrees : type ≡ type_at fs f
  pub valid : valid_stream_name stream_name_limit name ≡ true
  pub name_new : (t : StreamNo) → bare_used (bare_at ss t) ≡ true → (bare_at ss t).file ≡ f → units (bare_at ss t).name ≢ name

module _ (fs : List File) (ss : List BareStream) (f : FileNo) (type : FileType) (name : List ℕ) (made : StreamMade fs ss f type name) where
  pub made_used : bare_used (stream_new f type name) ≡ true
  unfolding stream_new bare_used
  made_used = made.used

  made-units : units (padded stream_name_limit name) ≡ name
  unfolding valid_stream_name
  made-units = units-padded StreamName stream_name_limit name made.valid

  made_sound : ((g : FileNo) → file_used (file_at fs g) ≡ true → count (unnamed_of g) ss + one (unnamed_of g (stream_new f type name)) ≡ 1)
      → ((g : FileNo) → is_directory (type_at fs g) ≡ true → count (stream_of g) ss + one (stream_of g (stream_new f type name)) ≡ 1)
      → StreamSound fs ss (stream_new f type name)
  unfolding stream_new file_used valid_stream_name
  made_sound unnamed directories =
      record {
        used = made_used;
        good =
            record {
              name_stored = padded-stored StreamName stream_name_limit name made.valid;
              name_valid = ap (valid_stream_name stream_name_limit) made-units ∙ made.valid;
              names_used_file = ap is_used (sym made.agrees) ∙ made.used;
              type_agrees = made.agrees;
              marked_named = λ u. absurd (false≢true u);
            };
        name_new = λ t u e n. made.name_new t u e (n ∙ made-units);
        one_unnamed = unnamed;
        directories_have_one = directories;
      }

  -- a named one of a file that is no directory
  pub named_sound : StreamsConsistent fs ss → is_empty name ≡ false → is_directory type ≡ false → StreamSound fs ss (stream_new f type name)
  unfolding stream_new is_empty
  named_sound h n d =
      made_sound
      (λ g u. one_before (h.one_unnamed g u)
      (refuted _ (λ e. not_both (ap is_empty (sym made-units ∙ ((unnamed_iff g (stream_new f type name)).0 e).1)) n)))
      (λ g u. one_before (h.directories_have_one g u)
      (refuted _
      (λ e.
      not_both u
      (ap (λ (x : FileNo). is_directory (type_at fs x)) (sym ((stream_of_iff g (stream_new f type name)).0 e).1)
      ∙ ap is_directory (sym made.agrees)
      ∙ d))))

-- the unnamed one of a file whose number was free
module _ (fs gs : List File) (ss : List BareStream) (n : FileNo) (type : FileType) (h : StreamsConsistent fs ss)
    (added : FileAdded fs gs n)
    (agrees : type ≡ type_at gs n)
  where
    pub no_stream : (t : StreamNo) → bare_used (bare_at ss t) ≡ true → (bare_at ss t).file ≡ n → ⊥
    unfolding file_used
    no_stream t u e = not_added added (bare_at ss t).file (stream_good h t u).names_used_file (ap (λ (f : FileNo). f.0) e)

    unnamed : BareStream
    unnamed = stream_new n type []

    unnamed_made : StreamMade gs ss n type []
    unfolding valid_stream_name valid_units all file_used
    unnamed_made =
        record { used = ap is_used agrees ∙ added.there; agrees = agrees; valid = refl; name_new = λ t u e z. no_stream t u e }

    -- the new file has this stream, and every other one what it had
    one_each : (p : FileNo → BareStream → Bool) → ((f : FileNo) (x : BareStream) → p f x ≡ true → stream_of f x ≡ true)
        → p n unnamed ≡ true → (f : FileNo) → (f.0 ≢ n.0 → count (p f) ss ≡ 1) → count (p f) ss + one (p f unnamed) ≡ 1
    unfolding unnamed stream_new bare_at
    one_each p stream own f before = go (ℕ_discrete f.0 n.0)
      where
        go : Dec (f.0 ≡ n.0) → count (p f) ss + one (p f unnamed) ≡ 1
        go (yes e) =
            one_added
            (count_none (p f) zero_bare ss
            (λ i q.
            let s = (stream_of_iff f _).0 (stream f _ q) in
            no_stream (record { 0 = i }) s.0 (s.1 ∙ same-file f n e)))
            (ap (λ (g : FileNo). p g unnamed) (same-file f n e) ∙ own)
        go (no e) =
            one_before (before e)
            (refuted _ (λ q. e (ap (λ (g : FileNo). g.0) (sym ((stream_of_iff f unnamed).0 (stream f unnamed q)).1))))

    pub unnamed_sound : StreamSound gs ss (stream_new n type [])
    unfolding unnamed stream_new valid_stream_name all units
    unnamed_sound =
        let own = (stream_of_iff n unnamed).1 (made_used gs ss n type [] unnamed_made, refl) in
        made_sound gs ss n type [] unnamed_made
        (λ f u.
        one_each unnamed_of (λ g x q. ((unnamed_iff g x).0 q).0) ((unnamed_iff n unnamed).1 (own, made-units gs ss n type [] unnamed_made)) f
        (λ e. h.one_unnamed f (used_before added f e u)))
        (λ f u.
        one_each stream_of (λ g x q. q) own f
        (λ e. h.directories_have_one f (ap (λ (x : File). is_directory x.file_type) (sym (added.others f e)) ∙ u)))
