-- What the writes of an accepted open rely on: its handle is the next one, which is not the last, and the names that it
-- stores fill their places, since step 4 passed them.
use Rattle.base.{specs.Base.{ℕ, suc, ◌≡◌, Bool, false, List, [], Option, none, some, eqb, all, is_empty, file_name_limit, stream_name_limit, last_handle, Namespace, Refusal, Checked, refused, passed, FileNo, Handle, Request}, proofs.Laws.{refl, Ends, stops, goes, went, ends_bind, ends_test, ends_cond, ends_weaker}}
use Rattle.apply.specs.Applied.{StoredNames}
use Rattle.codecs.specs.Codec.{Each}
use Rattle.free_slots.specs.Free.{free_file, free_link, free_stream}
use Rattle.names.{specs.{Names.{valid_units, valid_stream_name}, declared.NameKind.TheVariants.{FileName, StreamName}}, proofs.ValidNames.file_name_units}
use Rattle.stored_names.proofs.Padded.{padded_fills}
use Rattle.store.{specs.{Request.deletes_on_close, Complete.{View, Placed, Decision, share_of, stream_new, link_new, place_file, place_streams, place, next_handle, attribute_change, place_existing, complete, decide}, Prepare.{Creation, new_stream, new_file, Pending, existing, creating}}, proofs.Sequences.{Facts.{NamespaceConsistent, CreationFits, PendingFits}, Prepared.prepare_ends}}

-- a chain of steps, whatever it refuses with and whatever it passes
abbrev Any : Refusal → Type 0
Any r = Unit {0}

any_ends : {A : Type 0} (c : Checked A) → Ends Any (λ a. Unit {0}) c
any_ends (refused r) = stops tt
any_ends (passed a) = goes tt

-- the names among the records that an open adds
abbrev PlacedNames : Placed → Type 0
PlacedNames p = StoredNames p.change

place_ends : (ns : Namespace) (c : Creation) → CreationFits ns c → Ends Any PlacedNames (place ns c)
unfolding place place_streams place_file stream_new link_new Each valid_stream_name valid_units all
place_ends ns (new_stream f leaf a) fit =
    ends_bind (any_ends (free_stream ns 0))
    (λ s q. goes (record { links = tt; streams = (padded_fills StreamName stream_name_limit leaf.stream fit.name_valid, tt) }))
place_ends ns (new_file dir leaf file) fit =
    let link = padded_fills FileName file_name_limit leaf.file (file_name_units file_name_limit leaf.file fit.name_valid) in
    let unnamed = padded_fills StreamName stream_name_limit [] refl in
    let named = padded_fills StreamName stream_name_limit leaf.stream fit.stream_valid in
    ends_bind (any_ends (free_file ns))
    (λ f a.
    ends_bind (any_ends (free_link ns))
    (λ l b.
    ends_bind (any_ends (free_stream ns 0))
    (λ s c.
    ends_cond (is_empty leaf.stream) (λ e. goes (record { links = (link, tt); streams = (unnamed, tt) }))
    (λ e.
    ends_bind (any_ends (free_stream ns (suc s.0)))
    (λ t q. goes (record { links = (link, tt); streams = (unnamed, (named, tt)) }))))))

-- new attributes store no name
attributes_names : (ns : Namespace) (f : FileNo) (o : Option ℕ) → StoredNames (attribute_change ns f o)
unfolding attribute_change Each
attributes_names ns f none = record { links = tt; streams = tt }
attributes_names ns f (some a) = record { links = tt; streams = tt }

-- a decision that can be stored
pub record Storable (view : View) (d : Decision) : Type 0 where
  pub handle : d.handle.0 ≡ view.next
  pub not_last : eqb view.next last_handle ≡ false
  pub names : StoredNames d.placed.change

-- step 12
handle_ends : (view : View)
    → Ends Any (λ (h : Handle). (h.0 ≡ view.next) × (eqb view.next last_handle ≡ false)) (next_handle view)
unfolding next_handle
handle_ends view = ends_test _ _ tt (λ a. ends_test _ _ tt (λ b. goes (refl, b)))

complete_ends : (view : View) (ns : Namespace) (deletes : Bool) (p : Pending) → PendingFits ns deletes p
    → Ends Any (Storable view) (complete view ns deletes p)
unfolding complete place_existing
complete_ends view ns deletes (existing e) fits =
    ends_test _ _ tt
    (λ c.
    ends_bind (any_ends (share_of e.read_sharing _ e.terms))
    (λ t s.
    ends_bind (handle_ends view)
    (λ h q. goes (record { handle = q.0; not_last = q.1; names = attributes_names ns e.file e.attributes }))))
complete_ends view ns deletes (creating c t) fits =
    ends_bind (place_ends ns c fits.0)
    (λ p names. ends_bind (handle_ends view) (λ h q. goes (record { handle = q.0; not_last = q.1; names = names })))

-- the twelve steps
pub decided : (view : View) (ns : Namespace) (r : Request) (units : List ℕ) (d : Decision) → NamespaceConsistent ns
    → decide view ns r units ≡ passed d → Storable view d
unfolding decide
decided view ns r units d ok e = went (rw e at ends)
  where
    ends : Ends Any (Storable view) (decide view ns r units)
    ends =
        ends_bind (ends_weaker (λ q early. tt) (λ p f. f) (prepare_ends ns r units ok))
        (λ p f. complete_ends view ns (deletes_on_close r) p f)
