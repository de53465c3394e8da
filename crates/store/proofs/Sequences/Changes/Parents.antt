-- The way up from a file: a link to another file does not change it.
use Rattle.base.{specs.Base.{ℕ, zero, suc, ◌≡◌, Bool, true, false, List, [], ◌∷◌, get_or, set, zero_link, FileNo, Link}, proofs.Laws.{refl, ◌∙◌, ap}}
use Rattle.consistency.specs.Relations.{link_to, parent_of, climb}

-- a place that has no link to the file gets another record that is none
pub parent_set : (f : FileNo) (ls : List Link) (i : ℕ) (l : Link) → link_to f (get_or ls i zero_link) ≡ false → link_to f l ≡ false
    → parent_of (set ls i l) f ≡ parent_of ls f
unfolding parent_of
parent_set f [] i l old new = refl
parent_set f (m ∷ ms) zero l old new = rw (old, new, parent_of)
parent_set f (m ∷ ms) (suc i) l old new = go (link_to f m) refl (parent_set f ms i l old new)
  where
    go : (b : Bool) → link_to f m ≡ b → parent_of (set ms i l) f ≡ parent_of ms f
        → parent_of (m ∷ set ms i l) f ≡ parent_of (m ∷ ms) f
    go true e h = rw (e, parent_of)
    go false e h = rw (e, parent_of) h

-- where the parents of the files of a kind are of the kind, and the same in both tables, so are the ways up
module _ (P : FileNo → Type 0) (ls ms : List Link) (stays : (f : FileNo) → P f → P (parent_of ls f))
    (same : (f : FileNo) → P f → parent_of ms f ≡ parent_of ls f)
  where
    pub climb-same : (n : ℕ) (f : FileNo) → P f → climb ms n f ≡ climb ls n f
    unfolding climb
    climb-same zero f u = refl
    climb-same (suc n) f u = ap (climb ms n) (same f u) ∙ climb-same n (parent_of ls f) (stays f u)
