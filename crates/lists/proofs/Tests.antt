-- Tests and the facts that they decide.
use Prim.Native.Nat.{ℕ, ◌≤◌}
use borrow.Author.Tests.{eqb-true, eqb-false, eq-eqb, ne_eqb, leb-true, le-leb, not-true}
use lib.Dec.{eqb, leb}
use mathlib.Core.{Path.{◌≡◌, refl, sym, ◌∙◌, ap, ap₂}, Bool.{Bool, true, false, not, cond, beq, ◌&&◌, ◌||◌, true≢false, false≢true}, Logic.{◌↔◌, ◌⊎◌, inl, inr}, Option.{Option, none, some}}
use native.Mathlib.Omega.{arith}

-- nothing is no value
pub none≢some : {A : Type 0} {a : A} → Path (Option A) none (some a) → ⊥
none≢some e = let z : ◌≡◌ {A = ℕ} 0 1 = cc in omega arith

-- a test passes or fails
pub by_cases : {P : Type 0} (b : Bool) → (b ≡ true → P) → (b ≡ false → P) → P
by_cases true f g = f refl
by_cases false f g = g refl

pub not_both : {b : Bool} → b ≡ true → b ≡ false → ⊥
not_both p q = true≢false (sym p ∙ q)

-- a test that cannot pass fails
pub refuted : (b : Bool) → (b ≡ true → ⊥) → b ≡ false
refuted b h = by_cases b (λ e. absurd (h e)) (λ e. e)

pub not_is : {b : Bool} → b ≡ false → not b ≡ true
not_is p = ap not p

pub not_isn't : {b : Bool} → b ≡ true → not b ≡ false
not_isn't p = ap not p

-- a test that decides something fails where that does not hold
pub fails_iff : {b : Bool} {P : Type 0} → (b ≡ true) ↔ P → (b ≡ false) ↔ (P → ⊥)
fails_iff {b} d = (λ h p. not_both (d.1 p) h, λ n. refuted b (λ h. n (d.0 h)))

pub not_iff : (b : Bool) → (not b ≡ true) ↔ (b ≡ false)
not_iff b = (not-true b, not_is)

-- conjunction
pub and_left : (a b : Bool) → (a && b) ≡ true → a ≡ true
and_left true b h = refl
and_left false b h = h

pub and_right : (a b : Bool) → (a && b) ≡ true → b ≡ true
and_right true b h = h
and_right false b h = absurd (false≢true h)

pub and_both : {a b : Bool} → a ≡ true → b ≡ true → (a && b) ≡ true
and_both {a} {b} p q = ap₂ (λ (x y : Bool). x && y) p q

pub and_iff : (a b : Bool) → ((a && b) ≡ true) ↔ ((a ≡ true) × (b ≡ true))
and_iff a b = (λ h. (and_left a b h, and_right a b h), λ h. and_both h.0 h.1)

-- two tests that exclude each other
pub excluded : (a b : Bool) → not (a && b) ≡ true → a ≡ true → b ≡ false
excluded true b h p = not-true b h
excluded false b h p = absurd (false≢true p)

pub excludes : (a b : Bool) → (a ≡ true → b ≡ false) → not (a && b) ≡ true
excludes true b h = ap not (h refl)
excludes false b h = refl

pub exclude_iff : {a b : Bool} {P Q : Type 0} → (a ≡ true) ↔ P → (b ≡ false) ↔ Q → (not (a && b) ≡ true) ↔ (P → Q)
exclude_iff {a} {b} d e = (λ h p. e.0 (excluded a b h (d.1 p)), λ n. excludes a b (λ h. e.1 (n (d.0 h))))

-- four tests in another order
pub and_swap : (a b c : Bool) → (a && (b && c)) ≡ (b && (a && c))
and_swap true b c = refl
and_swap false true c = refl
and_swap false false c = refl

pub and_exchange : (a b c d : Bool) → ((a && b) && (c && d)) ≡ ((a && c) && (b && d))
and_exchange true b c d = and_swap b c d
and_exchange false b c d = refl

-- disjunction
pub or_cases : (a b : Bool) → (a || b) ≡ true → (a ≡ true) ⊎ (b ≡ true)
or_cases true b h = inl refl
or_cases false b h = inr h

pub or_left : {a : Bool} (b : Bool) → a ≡ true → (a || b) ≡ true
or_left b p = ap (λ (x : Bool). x || b) p

pub or_right : (a : Bool) {b : Bool} → b ≡ true → (a || b) ≡ true
or_right true p = refl
or_right false p = p

pub or_neither : (a b : Bool) → (a || b) ≡ false → (a ≡ false) × (b ≡ false)
or_neither true b h = absurd (true≢false h)
or_neither false b h = (refl, h)

-- a test that counts only where another passes
pub guarded : (a b : Bool) → (not a || b) ≡ true → a ≡ true → b ≡ true
guarded true b h p = h
guarded false b h p = absurd (false≢true p)

pub guard : (a b : Bool) → (a ≡ true → b ≡ true) → (not a || b) ≡ true
guard true b h = h refl
guard false b h = refl

pub guard_iff : (a b : Bool) → ((not a || b) ≡ true) ↔ (a ≡ true → b ≡ true)
guard_iff a b = (guarded a b, guard a b)

-- two tests that agree
pub beq_iff : (a b : Bool) → (beq a b ≡ true) ↔ (a ≡ b)
beq_iff true true = (λ h. refl, λ e. refl)
beq_iff true false = (sym, sym)
beq_iff false true = (λ h. h, λ e. e)
beq_iff false false = (λ h. refl, λ e. refl)

-- one of two values, by a test
pub cond_true : {A : Type 0} {b : Bool} (x y : A) → b ≡ true → cond b x y ≡ x
cond_true x y p = ap (λ (b : Bool). cond b x y) p

pub cond_false : {A : Type 0} {b : Bool} (x y : A) → b ≡ false → cond b x y ≡ y
cond_false x y p = ap (λ (b : Bool). cond b x y) p

pub cond_cases : {A : Type 0} (P : A → Type 0) (b : Bool) (x y : A) → (b ≡ true → P x) → (b ≡ false → P y) → P (cond b x y)
cond_cases P true x y f g = f refl
cond_cases P false x y f g = g refl

-- 1 where the test passes, else 0
abbrev pub one : Bool → ℕ
one b = cond b 1 0

-- numbers
pub eqb_iff : (m n : ℕ) → (eqb m n ≡ true) ↔ (m ≡ n)
eqb_iff m n = (eqb-true m n, eq-eqb m n)

pub leb_iff : (m n : ℕ) → (leb m n ≡ true) ↔ (m ≤ n)
leb_iff m n = (leb-true m n, le-leb m n)

-- two numbers are equal in either order
pub eqb_swap : (m n : ℕ) → eqb m n ≡ eqb n m
eqb_swap m n = go (eqb m n) refl
  where
    go : (b : Bool) → eqb m n ≡ b → b ≡ eqb n m
    go true e = sym (eq-eqb n m (sym (eqb-true m n e)))
    go false e = sym (ne_eqb n m (λ q. eqb-false m n e (sym q)))
