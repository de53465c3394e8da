use Rattle.std.specs.Prelude as code
use Rattle.base.{specs.Base.{ℕ, ◌≡◌, Bool, List, length, take, drop, root, Namespace, FileNo, LinkNo, Checked, passed, namespace, as_option, as_checked}, proofs.Laws.{refl, sym, ap, subst, ◌∙◌, arith, length-take}}
use mathlib.Core.Path.{subst⁻¹}
use Rattle.components.{specs.{Components.components, Positions.{part_of, parents_of, next_component}, declared.Part.Part}, proofs.Places.{part_before, next_order, next_within}}
use Rattle.layout.specs.Layout.{decode}
use Rattle.lookup.proofs.Walking.{step_lost, step_found, walk_left, walk_ends_lem, walk_stops, walk_goes_on}
use Rattle.lookup.specs.{Lookup.find_link, Answers.{last_step, walked_from}, declared.Walked.Walked}
use Rattle.lookup.proofs.walk.walk_path.Goals as goal
use Rattle.lookup.proofs.walk.walk_path.Goals.{then-is_last, else-is_last, After-find_link-found}

module _ {part : Part} (parents : List ℕ) (at : ℕ) (read : part ≡ next_component parents at) where
  -- at a component before the last
  more : (part.start ≡ part.end → ⊥) → (next_component parents at).start ≡ (next_component parents at).end → ⊥
  more ne z = ne (subst⁻¹ (λ (q : Part). q.start ≡ q.end) read z)

  module _ (ns : Namespace) (fold : Bool) (dir : FileNo) (path : List ℕ) (last : Part) (f : code.Option LinkNo) {name : Part} {us : List ℕ} (units : us ≡ part_of path name) (search : as_option f ≡ find_link ns fold dir us) where
    -- that component is a part of the path as it is of what stands before the last
    found_next : parents ≡ take last.start path → (part.start ≡ part.end → ⊥) → name ≡ part
        → find_link ns fold dir (part_of parents (next_component parents at)) ≡ as_option f
    found_next before ne n =
        let within = next_within parents at (more ne) in
        let component =
        sym
        (part_before path last.start part (omega (arith, ap (λ (q : Part). q.end) read, ap length before, length-take last.start path)))
        ∙ ap (λ (us : List ℕ). part_of us part) (sym before)
        ∙ ap (part_of parents) read in
        sym (search ∙ ap (find_link ns fold dir) (units ∙ ap (part_of path) n ∙ component))

    -- at the end of the components before the last
    to_last : {w : Checked Walked} → w ≡ walk_left ns fold dir (part_of path last) parents at → part.start ≡ part.end → name ≡ last
        → w ≡ passed (last_step dir (as_option f))
    to_last left e n =
        left
        ∙ walk_ends_lem _ _ _ _ _ _ (subst (λ (q : Part). q.start ≡ q.end) read e)
        ∙ ap (λ o. passed (last_step dir o)) (sym (search ∙ ap (find_link ns fold dir) (units ∙ ap (part_of path) n)))

module _ (f : After-find_link-found) where
  -- what the code searched for before the last component, and at it
  sought : (f.read_component-part.result.start ≡ f.read_component-part.result.end → ⊥) →
      let s = f.args in
      let parents = f.units_before-parents.result.now in
      find_link (namespace (decode s.b.now).volume) s.fold f.components.dir (part_of parents (next_component parents f.components.at))
      ≡ as_option f.find_link-found.result
  sought ne =
      let name : f.if-is_last.name ≡ f.read_component-part.result = elim f.if-is_last.branch [
        | then-is_last w ↦ absurd (ne w.if-is_last.true)
        | else-is_last w ↦ w.name-is
      ] in
      found_next _ _ f.read_component-part.ensures _ _ _ _ f.args.last f.find_link-found.result f.part_of.ensures f.find_link-found.ensures f.units_before-parents.ensures ne name

  sought_last : f.read_component-part.result.start ≡ f.read_component-part.result.end →
      let s = f.args in
      walked_from (namespace (decode s.b.now).volume) s.fold root (parents_of s.path.now s.last) (part_of s.path.now s.last)
      ≡ passed (last_step f.components.dir (as_option f.find_link-found.result))
  sought_last e =
      let name : f.if-is_last.name ≡ f.args.last = elim f.if-is_last.branch [
        | then-is_last w ↦ w.name-is
        | else-is_last w ↦ absurd (w.if-is_last.false e)
      ] in
      to_last _ _ f.read_component-part.ensures _ _ _ _ _ f.find_link-found.result f.part_of.ensures f.find_link-found.ensures f.components.invariant e name

pub components-init : goal.components-init
components-init c = rw c.units_before-parents.ensures

pub returns-in-Some : goal.returns-in-Some
unfolding last_step as_option as_checked
returns-in-Some c =
    sym
    (sought_last (goal.at.returns-in-Some c).After-find_link-found c.if-is_last-2.true
    ∙ ap (λ (o : code.Option LinkNo). passed (last_step c.components.dir (as_option o))) c.in-Some.is)

pub returns-in-None : goal.returns-in-None
unfolding last_step as_option as_checked
returns-in-None c =
    sym
    (sought_last (goal.at.returns-in-None c).After-find_link-found c.if-is_last-2.true
    ∙ ap (λ (o : code.Option LinkNo). passed (last_step c.components.dir (as_option o))) c.in-None.is)

pub returns-in_default : goal.returns-in_default
unfolding as_option as_checked
returns-in_default c =
    let next = sought (goal.at.returns-in_default c).After-find_link-found c.if-is_last-2.false in
    sym
    (c.components.invariant
    ∙ walk_stops _ _ _ _ _ _ (more _ _ c.read_component-part.ensures c.if-is_last-2.false) _ (step_lost _ _ (next ∙ ap as_option c.in_default.is)))

pub returns-then-read_file_mark : goal.returns-then-read_file_mark
unfolding as_option as_checked
returns-then-read_file_mark c =
    let next = sought (goal.at.returns-then-read_file_mark c).After-find_link-found c.if-is_last-2.false in
    sym
    (c.components.invariant
    ∙ walk_stops _ _ _ _ _ _ (more _ _ c.read_component-part.ensures c.if-is_last-2.false) _
    (step_found _ _ (next ∙ ap as_option c.in-Some-found.is) c.read_link_file-next.ensures (sym c.if-read_file_mark.true ∙ c.read_file_mark.ensures) refl refl))

pub returns-then-not-is_directory : goal.returns-then-not-is_directory
unfolding as_option as_checked
returns-then-not-is_directory c =
    let next = sought (goal.at.returns-then-not-is_directory c).After-find_link-found c.if-is_last-2.false in
    sym
    (c.components.invariant
    ∙ walk_stops _ _ _ _ _ _ (more _ _ c.read_component-part.ensures c.if-is_last-2.false) _
    (step_found _ _ (next ∙ ap as_option c.in-Some-found.is) c.read_link_file-next.ensures (sym c.if-read_file_mark.false ∙ c.read_file_mark.ensures) c.read_file_type.ensures (sym c.if-not-is_directory.true ∙ c.is_directory.ensures)))

pub components-smaller : goal.components-smaller
components-smaller c =
    let parents = c.units_before-parents.result.now in
    let apart = more _ _ c.read_component-part.ensures c.if-is_last-2.false in
    let order = next_order parents c.components.at in
    let within = next_within parents c.components.at apart in
    omega (arith, apart, ap (λ (q : Part). q.end) c.read_component-part.ensures)

pub components-preserved : goal.components-preserved
unfolding as_option as_checked
components-preserved c =
    let s = c.args in
    let parents = c.units_before-parents.result.now in
    let next = sought (goal.at.components-preserved c).After-find_link-found c.if-is_last-2.false in
    c.components.invariant
    ∙ walk_goes_on _ _ _ _ _ _ (more _ _ c.read_component-part.ensures c.if-is_last-2.false) _
    (step_found _ _ (next ∙ ap as_option c.in-Some-found.is) c.read_link_file-next.ensures (sym c.if-read_file_mark.false ∙ c.read_file_mark.ensures) c.read_file_type.ensures (sym c.if-not-is_directory.false ∙ c.is_directory.ensures))
    ∙ ap (λ (q : Part). walked_from (namespace (decode s.b.now).volume) s.fold c.read_link_file-next.result (components (drop q.end parents)) (part_of s.path.now s.last)) (sym c.read_component-part.ensures)
