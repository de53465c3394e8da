-- A function that gives k different numbers below n: k is at most n. And the least number that passes a test.
use Prim.Native.Nat.{ℕ, zero, suc, ◌≤◌, ◌<◌}
use borrow.Author.Tests.{eqb-true, eqb-false}
use lib.Dec.{eqb}
use mathlib.Core.{Path.{◌≡◌, sym, ◌∙◌}, Bool.{Bool, true, false, cond}, Logic.◌≢◌}
use native.Mathlib.Omega.{arith}
use Rattle.lists.proofs.Tests.{by_cases, cond_true, cond_false}

-- where one of them gives the largest number n, the last gives its own in its place
pub pigeonhole : (f : ℕ → ℕ) (k n : ℕ) → ((i : ℕ) → i < k → f i < n) → ((i j : ℕ) → i < j → j < k → f i ≢ f j) → k ≤ n
pigeonhole f zero n small distinct = omega arith
pigeonhole f (suc k) zero small distinct = absurd (let z : ⊥ = omega (arith, small 0 (omega arith)) in z)
pigeonhole f (suc k) (suc n) small distinct =
    let h = pigeonhole g k n below apart in omega arith
  where
    g : ℕ → ℕ
    g i = cond (eqb (f i) n) (f k) (f i)

    by_last : {P : Type 0} (i : ℕ) → (f i ≡ n → g i ≡ f k → P) → (f i ≢ n → g i ≡ f i → P) → P
    by_last i s t =
        by_cases (eqb (f i) n) (λ e. s (eqb-true (f i) n e) (cond_true (f k) (f i) e))
        (λ e. t (eqb-false (f i) n e) (cond_false (f k) (f i) e))

    below : (i : ℕ) → i < k → g i < n
    below i b =
        by_last i (λ e q. omega (arith, small k (omega arith), distinct i k b (omega arith)))
        (λ e q. omega (arith, small i (omega arith)))

    apart : (i j : ℕ) → i < j → j < k → g i ≢ g j
    apart i j l b same =
        by_last i
        (λ e q. by_last j (λ e' q'. distinct i j l (omega arith) (e ∙ sym e')) (λ e' q'. distinct j k b (omega arith) (sym q' ∙ sym same ∙ q)))
        (λ e q.
        by_last j (λ e' q'. distinct i k (omega arith) (omega arith) (sym q ∙ same ∙ q'))
        (λ e' q'. distinct i j l (omega arith) (sym q ∙ same ∙ q')))

-- the least number that passes, at most one that does
pub least : (p : ℕ → Bool) (n : ℕ) → p n ≡ true → (m : ℕ) × (m ≤ n) × (p m ≡ true) × ((i : ℕ) → i < m → p i ≡ false)
least p zero h = (0, omega arith, h, λ i b. absurd (let z : ⊥ = omega arith in z))
least p (suc n) h =
    by_cases (p 0) (λ e. (0, omega arith, e, λ i b. absurd (let z : ⊥ = omega arith in z)))
    (λ e. let q = least (λ i. p (suc i)) n h in (suc q.0, omega (arith, q.1), q.2, lower e q.3))
  where
    lower : {m : ℕ} → p 0 ≡ false → ((i : ℕ) → i < m → p (suc i) ≡ false) → (i : ℕ) → i < suc m → p i ≡ false
    lower e l zero b = e
    lower e l (suc i) b = l i (omega arith)
