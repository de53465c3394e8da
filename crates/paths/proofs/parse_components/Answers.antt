use Rattle.base.{specs.Base.{ℕ, List, ◌≡◌, file_name_limit}, proofs.Laws.{sym, ap, subst, ◌∙◌, arith}}
use mathlib.Core.Path.{subst⁻¹}
use Rattle.components.{specs.{Positions.{part_of, next_component}, declared.Part.Part}, proofs.Places.{next_order, next_within}}
use Rattle.names.specs.Names.{valid_file_name}
use Rattle.paths.proofs.{Walk.{first_none, at_first, at_next, at_bad, at_last}}
use Rattle.paths.specs.Positions.{as_path}
use Rattle.paths.proofs.parse_components.Goals as goal

abbrev Empty : Part → Type 0
Empty q = q.start ≡ q.end

pub returns-then-part : goal.returns-then-part
unfolding as_path
returns-then-part c =
    let n = c in
    let s = n.args in
    record {
      is = first_none s.wants_directory s.path.now (subst Empty n.next_component-part.ensures c.if-part.true);
      places = tt;
    }

pub loop-next-init : goal.loop-next-init
loop-next-init c =
    let n = c in
    let s = n.args in
    rw n.next_component-part.ensures
    (at_first s.wants_directory s.path.now (λ e. c.if-part.false (subst⁻¹ Empty n.next_component-part.ensures e)))

pub returns-then-next : goal.returns-then-next
returns-then-next c =
    let n = c in
    let l = n in
    let s = l.args in
    record {
      is =
          c.checked_leaf.ensures.is
          ∙ at_last s.wants_directory s.path.now l.loop-next.part l.loop-next.invariant (subst Empty n.next_component-next.ensures c.if-next.true);
      places = c.checked_leaf.ensures.places l.loop-next.invariant.within;
    }

-- where another component follows, and the present one's name was judged
more_of : (path : List ℕ) (e : ℕ) {q : Part} → q ≡ next_component path e → (Empty q → ⊥) → Empty (next_component path e) → ⊥
more_of path from is some e = some (subst⁻¹ Empty is e)

pub returns-then-not-valid_file_name : goal.returns-then-not-valid_file_name
unfolding as_path
returns-then-not-valid_file_name c =
    let v = c in
    let more = more_of c.args.path.now c.loop-next.part.end c.next_component-next.ensures c.if-next.false in
    let judged : valid_file_name file_name_limit (part_of c.args.path.now c.loop-next.part) ≡ c.valid_file_name.result = rw (← c.part_of.ensures) (sym c.valid_file_name.ensures) in
    let s = v.args in
    record {
      is = at_bad s.wants_directory s.path.now v.loop-next.part v.loop-next.invariant more (judged ∙ c.if-not-valid_file_name.true);
      places = tt;
    }

pub loop-next-smaller : goal.loop-next-smaller
loop-next-smaller c =
    let v = c in
    let more = more_of c.args.path.now c.loop-next.part.end c.next_component-next.ensures c.if-next.false in
    let judged : valid_file_name file_name_limit (part_of c.args.path.now c.loop-next.part) ≡ c.valid_file_name.result = rw (← c.part_of.ensures) (sym c.valid_file_name.ensures) in
    let p = v.args.path.now in
    let e = v.loop-next.part.end in
    omega (arith, more, next_order p e, next_within p e more, ap (λ (q : Part). q.end) v.next_component-next.ensures)

pub loop-next-preserved : goal.loop-next-preserved
loop-next-preserved c =
    let v = c in
    let more = more_of c.args.path.now c.loop-next.part.end c.next_component-next.ensures c.if-next.false in
    let judged : valid_file_name file_name_limit (part_of c.args.path.now c.loop-next.part) ≡ c.valid_file_name.result = rw (← c.part_of.ensures) (sym c.valid_file_name.ensures) in
    let s = v.args in
    rw v.next_component-next.ensures
    (at_next s.wants_directory s.path.now v.loop-next.part v.loop-next.invariant more (judged ∙ c.if-not-valid_file_name.false))
