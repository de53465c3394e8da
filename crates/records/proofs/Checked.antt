-- A chain of steps that may refuse: how it ends.
use Prim.Native.Nat.{ℕ}
use mathlib.Core.{Path.{◌≡◌, refl, ap}, Bool.{Bool, true, false, cond}, Option.{Option, none, some}}
use native.Mathlib.Omega.{arith}
use Rattle.records.specs.{Checked.{Refusal, Checked, refused, passed, refuse, ◌>>=◌, ◌>>◌, refuse_if, some_or}, declared.Status.Status}

-- a refusal is no passed value
pub refused≢passed : {A : Type 0} {r : Refusal} {a : A} → Path (Checked A) (refused r) (passed a) → ⊥
refused≢passed e = let z : ◌≡◌ {A = ℕ} 0 1 = cc in omega arith

pub passed_same : {A : Type 0} {a b : A} → Path (Checked A) (passed a) (passed b) → a ≡ b
passed_same e = cc

pub refused_same : {A : Type 0} {q r : Refusal} → Path (Checked A) (refused q) (refused r) → q ≡ r
refused_same e = cc

module _ {A B : Type 0} where
  -- a chain whose first step is known
  pub bind_of : {e : Checked A} (f : A → Checked B) {a : A} → e ≡ passed a → (e >>= f) ≡ f a
  unfolding ◌>>=◌
  bind_of f h = ap (λ (c : Checked A). c >>= f) h

-- a test before the rest of a chain
module _ {B : Type 0} where
  pub test_refuses : {b : Bool} (s : Status) (g : Checked B) → b ≡ true → (refuse_if b s >> g) ≡ refuse s
  unfolding refuse_if ◌>>◌
  test_refuses s g e = ap (λ (b : Bool). refuse_if b s >> g) e

-- how a chain of steps ends: what its refusals satisfy, and what its passed value does
pub data Ends {A : Type 0} (Q : Refusal → Type 0) (P : A → Type 0) : Checked A → Type 0 where
  stops : {r : Refusal} → Q r → Ends Q P (refused r)
  goes : {a : A} → P a → Ends Q P (passed a)

pub stopped : {A : Type 0} {Q : Refusal → Type 0} {P : A → Type 0} {r : Refusal} → Ends Q P (refused r) → Q r
stopped (stops q) = q

pub went : {A : Type 0} {Q : Refusal → Type 0} {P : A → Type 0} {a : A} → Ends Q P (passed a) → P a
went (goes p) = p

module _ {A : Type 0} {Q : Refusal → Type 0} {P : A → Type 0} where
  -- one step after the other
  pub ends_bind : {B : Type 0} {R : B → Type 0} {e : Checked A} {f : A → Checked B} → Ends Q P e
      → ((a : A) → P a → Ends Q R (f a)) → Ends Q R (e >>= f)
  unfolding ◌>>=◌
  ends_bind (stops q) k = stops q
  ends_bind (goes {a} p) k = k a p

  -- a test, and the rest where it does not refuse
  pub ends_test : (b : Bool) (s : Status) {g : Checked A} → Q (record { status = s }) → (b ≡ false → Ends Q P g)
      → Ends Q P (refuse_if b s >> g)
  unfolding ◌>>◌ refuse_if
  ends_test true s q h = stops q
  ends_test false s q h = h refl

  -- one of two, by a test
  pub ends_cond : (b : Bool) {x y : Checked A} → (b ≡ true → Ends Q P x) → (b ≡ false → Ends Q P y) → Ends Q P (cond b x y)
  ends_cond true h k = h refl
  ends_cond false h k = k refl

  -- a value that is there
  pub ends_some : (s : Status) (o : Option A) → (o ≡ none → Q (record { status = s })) → ((a : A) → o ≡ some a → P a)
      → Ends Q P (some_or s o)
  unfolding some_or
  ends_some s none q h = stops (q refl)
  ends_some s (some a) q h = goes (h a refl)

  -- what follows from each
  pub ends_weaker : {Q' : Refusal → Type 0} {P' : A → Type 0} {c : Checked A}
      → ((r : Refusal) → Q r → Q' r) → ((a : A) → P a → P' a) → Ends Q P c → Ends Q' P' c
  ends_weaker i j (stops {r} q) = stops (i r q)
  ends_weaker i j (goes {a} p) = goes (j a p)
