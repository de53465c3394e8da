-- The closing call: what it accepted, and what it accepts.
use Rattle.base.{specs.Base.{ℕ, ◌≡◌, true, not, ◌&&◌, List, length, eqb, FileCorruptError, passed, done, concluded, Step, Checked}, proofs.Laws.{refl, sym, ◌∙◌, ap, by_cases, and_left, and_right, and_both, not-false, not_isn't, eqb-true, eq-eqb, passed_same, bind_of}}
use Rattle.image.specs.{Blocks.image_blocks, Image.{Reading, Restoring, restorable, checked_image, finish_image}}
use Rattle.layout.specs.Layout.{tables_size}
use Rattle.image_laws.proofs.Chains.{test_passed, test_passes, bind_passed, done_passed, not_refused}

-- what the closing call accepted
pub record Accepted (t : Reading) (r : Restoring) : Type 0 where
  pub all : t.reader ≡ image_blocks
  pub sound : restorable t.spare ≡ true
  pub tables : r.tables ≡ t.spare

abbrev gives : List ℕ → Checked (Step Restoring)
gives bs = passed (done (record { tables = bs; reading = record { spare = bs; reader = 0 } }))

accepted : (t : Reading) (r : Restoring) (bs : List ℕ) → checked_image t ≡ passed bs → gives bs ≡ passed (done r) → Accepted t r
unfolding checked_image
accepted t r bs h e =
    let test = test_passed (not (eqb t.reader image_blocks && restorable t.spare)) FileCorruptError (passed t.spare) h in
    let both = not-false (eqb t.reader image_blocks && restorable t.spare) test.0 in
    record {
      all = eqb-true t.reader image_blocks (and_left (eqb t.reader image_blocks) (restorable t.spare) both);
      sound = and_right (eqb t.reader image_blocks) (restorable t.spare) both;
      tables = sym (passed_same test.1 ∙ ap (λ (x : Step Restoring). x.state.tables) (passed_same e));
    }

pub finish_accepted : (before : List ℕ) (t : Reading) (r : Restoring) → finish_image (record { tables = before; reading = t }) ≡ done r
    → Accepted t r
unfolding finish_image
finish_accepted before t r h =
    by_cases (eqb (length before) tables_size && eqb (length t.spare) tables_size)
    (λ e. let passes = bind_passed (checked_image t) gives (done_passed _ _ (rw (e, finish_image) at h)) in
    accepted t r passes.0 passes.1.0 passes.1.1)
    (λ e. absurd (not_refused (rw (e, finish_image) at h)))

-- after all blocks it takes what can be restored, whatever the tables held
pub finishes : (before spare : List ℕ) → length before ≡ tables_size → length spare ≡ tables_size → restorable spare ≡ true
    → finish_image (record { tables = before; reading = record { spare = spare; reader = image_blocks } })
    ≡ done (record { tables = spare; reading = record { spare = spare; reader = 0 } })
unfolding finish_image checked_image concluded
finishes before spare lb ls sound =
    rw (and_both (eq-eqb (length before) tables_size lb) (eq-eqb (length spare) tables_size ls), finish_image)
    (ap (concluded _) (bind_of gives (test_passes FileCorruptError _ (not_isn't (and_both refl sound)))))
