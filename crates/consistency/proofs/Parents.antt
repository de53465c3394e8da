-- Parents: what a file's parent is, and that a way to the root visits no file twice, so that it is at most as long as
-- there are files.
use Rattle.base.{specs.Base.{ℕ, zero, suc, ◌+◌, ◌-◌, ◌≤◌, ◌<◌, ◌≡◌, Bool, true, false, ◌||◌, List, [], ◌∷◌, ◌≢◌, eqb, length, get_or, count, keep, root, zero_link, file_used, link_used, FileNo, File, Link}, proofs.Laws.{refl, sym, ◌∙◌, ap, ⊎_elim, arith, eqb-true, eqb-false, eq-eqb, by_cases, refuted, not_both, or_cases, or_left, or_right, count_yes, count_no, keep_yes, keep_no, count-keep, pigeonhole, least}}
use native.Mathlib.Nat.{zero-add, suc-add}
use Rattle.tables.specs.Tables.{file_at}
use Rattle.consistency.proofs.{Relations.link_to_iff, Numbered.{same-file, file_in}}
use Rattle.consistency.specs.Relations.{link_to, parent_of, climb, reaches}

pub links_kept : (f : FileNo) (ls : List Link) → count (link_to f) (keep link_used ls) ≡ count (link_to f) ls
links_kept f ls = count-keep link_used (link_to f) (λ l h. ((link_to_iff f l).0 h).0) ls

-- the parent by the first link, or by a later one
module _ (f : FileNo) (l : Link) (ls : List Link) where
  pub parent_here : link_to f l ≡ true → parent_of (l ∷ ls) f ≡ l.parent
  unfolding parent_of
  parent_here e = rw (e, parent_of)

  pub parent_next : link_to f l ≡ false → parent_of (l ∷ ls) f ≡ parent_of ls f
  unfolding parent_of
  parent_next e = rw (e, parent_of)

-- free links don't matter
pub parent_kept : (ls : List Link) (f : FileNo) → parent_of (keep link_used ls) f ≡ parent_of ls f
unfolding keep
parent_kept [] f = refl
parent_kept (l ∷ ls) f =
    let h = parent_kept ls f in
    by_cases (link_used l)
    (λ u.
    rw (keep_yes link_used l ls u)
    (by_cases (link_to f l) (λ e. parent_here f l (keep link_used ls) e ∙ sym (parent_here f l ls e))
    (λ e. parent_next f l (keep link_used ls) e ∙ h ∙ sym (parent_next f l ls e))))
    (λ u.
    rw (keep_no link_used l ls u)
    (h ∙ sym (parent_next f l ls (refuted (link_to f l) (λ e. not_both ((link_to_iff f l).0 e).0 u)))))

-- a file with a link has the parent of one of its links
pub parent_link : (ls : List Link) (f : FileNo) → 0 < count (link_to f) ls
    → (i : ℕ) × (link_to f (get_or ls i zero_link) ≡ true) × (parent_of ls f ≡ (get_or ls i zero_link).parent)
unfolding count
parent_link [] f h = absurd (let z : ⊥ = omega arith in z)
parent_link (l ∷ ls) f h =
    by_cases (link_to f l) (λ e. (0, e, parent_here f l ls e))
    (λ e.
    let q = parent_link ls f (omega (arith, count_no (link_to f) l ls e)) in
    (suc q.0, q.1, parent_next f l ls e ∙ q.2))

-- a file without a link is its own parent
pub parent_none : (ls : List Link) (f : FileNo) → count (link_to f) ls ≡ 0 → parent_of ls f ≡ f
unfolding count parent_of
parent_none [] f h = refl
parent_none (l ∷ ls) f h =
    by_cases (link_to f l) (λ e. absurd (let z : ⊥ = omega (arith, count_yes (link_to f) l ls e) in z))
    (λ e. parent_next f l ls e ∙ parent_none ls f (sym (count_no (link_to f) l ls e) ∙ h))

-- a steps up and then b more
pub climb_more : (ls : List Link) (a b : ℕ) (f : FileNo) → climb ls (a + b) f ≡ climb ls b (climb ls a f)
unfolding climb
climb_more ls zero b f = ap (λ (n : ℕ). climb ls n f) (zero-add b)
climb_more ls (suc a) b f = ap (λ (n : ℕ). climb ls n f) (suc-add a b) ∙ climb_more ls a b (parent_of ls f)

-- the root is here, or above the parent
reaches_step : (ls : List Link) (n : ℕ) (f : FileNo)
    → reaches ls (suc n) f ≡ (eqb f.0 0 || reaches ls n (parent_of ls f))
unfolding reaches
reaches_step ls n f = by_cases (eqb f.0 0) (λ e. rw (e, reaches)) (λ e. rw (e, reaches))

pub reaches-kept : (ls : List Link) (n : ℕ) (f : FileNo) → reaches (keep link_used ls) n f ≡ reaches ls n f
unfolding reaches
reaches-kept ls zero f = refl
reaches-kept ls (suc n) f =
    reaches_step (keep link_used ls) n f
    ∙ ap (λ (b : Bool). eqb f.0 0 || b)
    (ap (λ (g : FileNo). reaches (keep link_used ls) n g) (parent_kept ls f) ∙ reaches-kept ls n (parent_of ls f))
    ∙ sym (reaches_step ls n f)

-- the root is at most n steps up exactly when it is some number of steps up, at most n
pub reaches_climbs : (ls : List Link) (n : ℕ) (f : FileNo) → reaches ls n f ≡ true
    → (m : ℕ) × (m ≤ n) × (climb ls m f ≡ root)
unfolding reaches climb
reaches_climbs ls zero f h = (0, omega arith, same-file f root (eqb-true f.0 0 h))
reaches_climbs ls (suc n) f h =
    ⊎_elim (λ e. (0, omega arith, same-file f root (eqb-true f.0 0 e)))
    (λ e. let q = reaches_climbs ls n (parent_of ls f) e in (suc q.0, omega (arith, q.1), q.2))
    (or_cases (eqb f.0 0) (reaches ls n (parent_of ls f)) (sym (reaches_step ls n f) ∙ h))

pub climbs_reach : (ls : List Link) (n m : ℕ) (f : FileNo) → m ≤ n → climb ls m f ≡ root → reaches ls n f ≡ true
unfolding reaches climb
climbs_reach ls zero zero f h e = eq-eqb f.0 0 (λ i. (e i).0)
climbs_reach ls zero (suc m) f h e = absurd (let z : ⊥ = omega arith in z)
climbs_reach ls (suc n) zero f h e =
    reaches_step ls n f ∙ or_left (reaches ls n (parent_of ls f)) (eq-eqb f.0 0 (λ i. (e i).0))
climbs_reach ls (suc n) (suc m) f h e =
    reaches_step ls n f ∙ or_right (eqb f.0 0) (climbs_reach ls n m (parent_of ls f) (omega arith) e)

-- where every file but the root has a link, and every link's parent is used
module _ (fs : List File) (ls : List Link)
    (linked : (f : FileNo) → f ≢ root → file_used (file_at fs f) ≡ true → count (link_to f) ls ≡ 1)
    (parents : (i : ℕ) → link_used (get_or ls i zero_link) ≡ true → file_used (file_at fs (get_or ls i zero_link).parent) ≡ true) where
  pub parent_used : (f : FileNo) → f ≢ root → file_used (file_at fs f) ≡ true → file_used (file_at fs (parent_of ls f)) ≡ true
  parent_used f n u =
      let q = parent_link ls f (omega (arith, linked f n u)) in
      ap (λ (g : FileNo). file_used (file_at fs g)) q.2
      ∙ parents q.0 ((link_to_iff f _).0 q.1).0

  -- every file before the root is used
  climb_used : (i : ℕ) (f : FileNo) → file_used (file_at fs f) ≡ true → ((k : ℕ) → k < i → climb ls k f ≢ root)
      → file_used (file_at fs (climb ls i f)) ≡ true
  unfolding climb
  climb_used zero f u n = u
  climb_used (suc i) f u n =
      climb_used i (parent_of ls f) (parent_used f (n 0 (omega arith)) u) (λ k b. n (suc k) (omega arith))

  -- the least number of steps to the root
  module _ (f : FileNo) (u : file_used (file_at fs f) ≡ true) (m : ℕ) (there : climb ls m f ≡ root)
      (before : (i : ℕ) → i < m → climb ls i f ≢ root) where
    distinct : (i j : ℕ) → i < j → j < m → (climb ls i f).0 ≢ (climb ls j f).0
    distinct i j b c e =
        before (i + (m - j)) (omega arith)
        (climb_more ls i (m - j) f
        ∙ ap (climb ls (m - j)) (same-file (climb ls i f) (climb ls j f) e)
        ∙ sym (climb_more ls j (m - j) f)
        ∙ ap (λ (n : ℕ). climb ls n f) (let z : j + (m - j) ≡ m = omega arith in z)
        ∙ there)

    least_steps : m ≤ length fs
    least_steps =
        pigeonhole (λ i. (climb ls i f).0) m (length fs)
        (λ i b. file_in fs (climb ls i f) (climb_used i f u (λ k c. before k (omega arith)))) distinct

  -- the root is at most as many steps up as there are files
  pub few_steps : (f : FileNo) → file_used (file_at fs f) ≡ true → (n : ℕ) → climb ls n f ≡ root → reaches ls (length fs) f ≡ true
  few_steps f u n e =
      let q = least (λ i. eqb (climb ls i f).0 0) n (eq-eqb (climb ls n f).0 0 (λ i. (e i).0)) in
      let there = same-file (climb ls q.0 f) root (eqb-true (climb ls q.0 f).0 0 q.2) in
      climbs_reach ls (length fs) q.0 f
      (least_steps f u q.0 there (λ i b r. eqb-false (climb ls i f).0 0 (q.3 i b) (λ k. (r k).0))) there
