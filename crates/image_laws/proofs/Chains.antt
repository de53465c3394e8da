-- Chains of steps that passed: what each step passed, and chains joined.
use Rattle.base.{specs.Base.{ℕ, ◌≡◌, Bool, true, false, Checked, refused, passed, ◌>>=◌, ◌>>◌, refuse_if, Status, Step, concluded, done, refused_reply, Refused, Done}, proofs.Laws.{refl, ap, arith, refused≢passed}}

module _ {A : Type 0} where
  -- a test that did not refuse, and the rest
  pub test_passed : (b : Bool) (s : Status) (g : Checked A) {a : A} → (refuse_if b s >> g) ≡ passed a → (b ≡ false) × (g ≡ passed a)
  unfolding refuse_if ◌>>◌
  test_passed true s g e = absurd (refused≢passed e)
  test_passed false s g e = (refl, e)

  pub test_passes : {b : Bool} (s : Status) (g : Checked A) → b ≡ false → (refuse_if b s >> g) ≡ g
  unfolding refuse_if ◌>>◌
  test_passes s g e = ap (λ (b : Bool). refuse_if b s >> g) e

module _ {A B : Type 0} where
  -- two steps that passed
  pub bind_passed : (e : Checked A) (f : A → Checked B) {b : B} → (e >>= f) ≡ passed b → (a : A) × ((e ≡ passed a) × (f a ≡ passed b))
  unfolding ◌>>=◌
  bind_passed (refused r) f h = absurd (refused≢passed h)
  bind_passed (passed a) f h = (a, (refl, h))

  -- the rest matters only for what the first step passes
  pub bind_same : (e : Checked A) (f g : A → Checked B) → ((a : A) → e ≡ passed a → f a ≡ g a) → (e >>= f) ≡ (e >>= g)
  unfolding ◌>>=◌
  bind_same (refused r) f g h = refl
  bind_same (passed a) f g h = h a refl

  pub bind_bind : {C : Type 0} (e : Checked A) (f : A → Checked B) (g : B → Checked C) → ((e >>= f) >>= g) ≡ (e >>= (λ a. f a >>= g))
  unfolding ◌>>=◌
  bind_bind (refused r) f g = refl
  bind_bind (passed a) f g = refl

-- a call that succeeded passed what it leaves
module _ {S : Type 0} where
  pub not_refused : {q : Status} {s t : S} → Path (Step S) (record { reply = refused_reply q; state = s }) (done t) → ⊥
  not_refused e =
      let o : Refused _ ≡ Done = ap (λ (x : Step S). x.reply.outcome) e in
      let z : ◌≡◌ {A = ℕ} 0 1 = cc in
      omega arith

  pub done_passed : (s : S) (c : Checked (Step S)) {t : S} → concluded s c ≡ done t → c ≡ passed (done t)
  unfolding concluded
  done_passed s (refused r) e = absurd (not_refused e)
  done_passed s (passed x) e = ap (λ (y : Step S). passed y) e
