-- Which opens are counted; the pair rule doesn't depend on the order of the two opens, and an uncounted one conflicts
-- with none.
use Rattle.base.{specs.Base.{ℕ, ◌≡◌, Bool, true, false, not, ◌&&◌, ◌||◌, Terms, terms_of, Open}, proofs.Laws.{ap₂, or_left, or_right}}
use mathlib.Core.Bool.{and_comm, or_comm}
use Rattle.sharing.specs.Sharing.{Kind, reading, writing, deleting, any_kind, holds, shares, counted, conflict, conflicting}

-- two tests that agree on each kind
pub any_kind_same : (p q : Kind → Bool) → ((k : Kind) → p k ≡ q k) → any_kind p ≡ any_kind q
unfolding any_kind
any_kind_same p q h = rw (h reading, h writing, h deleting)

-- an open is uncounted exactly where it holds no kind
pub uncounted_none : (granted : ℕ) → ((k : Kind) → holds k granted ≡ false) → counted granted ≡ false
unfolding counted any_kind
uncounted_none g h = rw (h reading, h writing, h deleting)

pub counted_holder : (k : Kind) (granted : ℕ) → holds k granted ≡ true → counted granted ≡ true
unfolding counted any_kind
counted_holder reading g h = or_left (holds deleting g) (or_left (holds writing g) h)
counted_holder writing g h = or_left (holds deleting g) (or_right (holds reading g) h)
counted_holder deleting g h = or_right (holds reading g || holds writing g) h

pub conflict_sym : (t t' : Terms) → conflict t t' ≡ conflict t' t
unfolding conflict
conflict_sym t t' =
    ap₂ (λ (a b : Bool). a && b) (and_comm (counted t.granted) (counted t'.granted))
    (any_kind_same _ _
    (λ k. or_comm (holds k t.granted && not (shares k t'.share)) (holds k t'.granted && not (shares k t.share))))

pub conflicting_sym : (o o' : Open) → conflicting o o' ≡ conflicting o' o
unfolding conflicting
conflicting_sym o o' = conflict_sym (terms_of o) (terms_of o')

-- an uncounted open conflicts with none
pub conflict_uncounted : (t t' : Terms) → counted t.granted ≡ false → conflict t t' ≡ false
unfolding conflict
conflict_uncounted t t' h = rw h
