-- The links of a file by tables of the counts and the parents: one step of the way up, and what tables that have what the
-- links say decide.
use Rattle.base.{specs.Base.{ℕ, zero, suc, ◌-◌, ◌≤◌, ◌<◌, ◌≡◌, true, false, List, eqb, length, get_or, count, keep, file_slots, link_used, FileNo, File, Link}, proofs.Laws.{refl, ap, ◌∙◌, arith, get_or_default, eq-eqb, ne_eqb, by_cases, get_d_default, Noted}}
use Rattle.consistency.{specs.{Relations.{link_to, parent_of, reaches}, Test.links_of_file}, proofs.{Numbered.same-file, Parents.{links_kept, reaches-kept}}}
use Rattle.audit_links.specs.Linked.{leads, linked_at, file_linked}

-- one step up
module _ (up : List ℕ) where
  -- the root is here
  pub leads_here : (steps n : ℕ) → n ≡ 0 → leads up steps n ≡ true
  unfolding leads
  leads_here zero n e = eq-eqb n 0 e
  leads_here (suc steps) n e = rw (eq-eqb n 0 e, leads)

  -- or the way goes on from the parent
  pub leads_next : (steps n : ℕ) → 0 < steps → (n ≡ 0 → ⊥) → n < length up → leads up steps n ≡ leads up (steps - 1) (get_or up n 0)
  unfolding leads
  leads_next zero n h z b = absurd (let w : ⊥ = omega arith in w)
  leads_next (suc steps) n h z b =
      rw (ne_eqb n 0 z, leads, get_d_default up n n 0 b) (ap (λ (k : ℕ). leads up k (get_or up n 0)) (let w : steps ≡ suc steps - 1 = omega arith in w))

  -- or there is none, past the table's end
  pub leads_past : (steps n : ℕ) → (n ≡ 0 → ⊥) → length up ≤ n → leads up steps n ≡ false
  unfolding leads
  leads_past zero n z b = ne_eqb n 0 z
  leads_past (suc steps) n z b = rw (ne_eqb n 0 z, leads, get_or_default up n b) (leads_past steps n z b)

-- what links say of a file's number: how many name it, and its parent
abbrev links_to : ℕ → List Link → ℕ
links_to n ls = count (link_to (record { 0 = n })) ls

abbrev pub above : ℕ → List Link → ℕ
above n ls = (parent_of ls (record { 0 = n })).0

-- tables that have what the links say, which name no parent past the tables' end
module _ (ls : List Link) (counts up : List ℕ) (size : length up ≡ file_slots)
    (counted : Noted 0 file_slots counts (λ n. links_to n ls)) (parents : Noted 0 file_slots up (λ n. above n ls))
    (inside : (n : ℕ) → n < file_slots → above n ls < file_slots) where
  leads_reaches : (steps n : ℕ) → n < file_slots → leads up steps n ≡ reaches ls steps (record { 0 = n })
  unfolding leads reaches
  leads_reaches zero n b = refl
  leads_reaches (suc steps) n b =
      by_cases (eqb n 0) (λ e. rw (e, leads, reaches))
      (λ e.
      rw (e, leads, reaches)
      (ap (leads up steps) (get_d_default up n n 0 (omega arith) ∙ parents n b)
      ∙ leads_reaches steps (above n ls) (inside n b)
      ∙ ap (reaches ls steps) (same-file (record { 0 = above n ls }) (parent_of ls (record { 0 = n })) refl)))

  -- a file's test over all the links: the free ones do not matter
  pub linked_same : (n : ℕ) → n < file_slots → (f : File) → file_linked counts up n f ≡ links_of_file (keep link_used ls) n f
  unfolding links_of_file file_linked linked_at
  linked_same n b f =
      let number : FileNo = record { 0 = n } in
      rw (counted n b, leads_reaches file_slots n b, links_kept number ls, reaches-kept ls file_slots number)
