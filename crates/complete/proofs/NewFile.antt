-- Where a new file goes: the definition's searches, as the slots that the code finds.
use Rattle.base.{specs.Base.{ℕ, ◌≡◌, not, List, [], ◌∷◌, eqb, length, is_empty, Namespace, Checked, refused, passed, ◌>>=◌, FileNo, LinkNo, StreamNo}, proofs.Laws.{refl, ap, arith, by_cases, ne_eqb}}
use Rattle.components.specs.Positions.{part_of}
use Rattle.open_steps.specs.{Pendings.as_file, Decisions.{streams_added, as_placed}, declared.{FileToAdd.FileToAdd, PlacedOpen.TheVariants.NewFile}}
use Rattle.paths.specs.Positions.{as_leaf}
use Rattle.store.specs.{Prepare.new_file, Complete.{link_new, place_streams, place}}
use Rattle.complete.specs.Placing.{opened_slot, file_slots}

-- a name that has units
pub named_is : (us : List ℕ) → not (eqb (length us) 0) ≡ not (is_empty us)
unfolding is_empty
named_is [] = refl
named_is (u ∷ us) = ap not (ne_eqb (length (u ∷ us)) 0 (λ z. omega arith))

-- a chain of steps may be grouped either way
bind_assoc : {A B C : Type 0} (e : Checked A) (g : A → Checked B) (h : B → Checked C) → (e >>= g >>= h) ≡ (e >>= λ a. g a >>= h)
unfolding ◌>>=◌
bind_assoc (refused r) g h = refl
bind_assoc (passed a) g h = refl

module _ (ns : Namespace) (path : List ℕ) (f : FileToAdd) where
  abbrev name : List ℕ
  name = part_of path f.leaf.stream

  -- the streams, once the other slots are found
  streams : (n : FileNo) (l : LinkNo) (s : StreamNo)
      → place_streams ns (n, as_file ns.files f) (l, link_new f.dir (part_of path f.leaf.file) n) name s
      ≡ (opened_slot ns s (not (is_empty name)) >>= λ t. passed (as_placed ns path (NewFile f (record { file = n; link = l; unnamed = s; opened = t }))))
  unfolding place_streams opened_slot as_placed streams_added as_file ◌>>=◌
  streams n l s = by_cases (is_empty name) (λ e. rw e) (λ e. rw e)

  pub place-file : place ns (new_file f.dir (as_leaf path f.leaf) (as_file ns.files f))
      ≡ (file_slots ns (not (is_empty name)) >>= λ at. passed (as_placed ns path (NewFile f at)))
  unfolding place file_slots as_leaf ◌>>=◌
  place-file = simp (bind_assoc, streams)
