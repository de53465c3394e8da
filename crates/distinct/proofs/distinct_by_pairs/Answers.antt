use Rattle.base.{specs.Base.{get_or}, proofs.Laws.{sym, ◌∙◌, arith, not_both}}
use Rattle.distinct.proofs.{Apart.{is_key_lem, no_key, apart_none, apart_past, distinct_all, distinct_not}}
use Rattle.distinct.proofs.distinct_by_pairs.Goals as goal
use Rattle.distinct.proofs.distinct_by_pairs.Goals.{else-key-ne0-via-then-key-ne0+else-stands_before, else-key-ne0-via-else-key-ne0}

pub returns-then-stands_before : goal.returns-then-stands_before
returns-then-stands_before c =
    let l = c in
    let keys = l.args.keys.now in
    let key = get_or keys l.loop-place.place 0 in
    sym
    (distinct_not keys l.loop-place.place (omega arith) (is_key_lem key c.if-key-ne0.true)
    (sym c.stands_before.ensures ∙ c.if-stands_before.true))

pub loop-place-preserved : goal.loop-place-preserved
loop-place-preserved c =
    let keys = c.args.keys.now in
    let key = get_or keys c.loop-place.place 0 in
    apart_past keys c.loop-place.place c.loop-place.invariant
    (λ u.
    elim c.else-key-ne0.branch [
      | else-key-ne0-via-then-key-ne0+else-stands_before w ↦ sym w.stands_before.ensures ∙ w.if-stands_before.false
      | else-key-ne0-via-else-key-ne0 w ↦ absurd (not_both u (no_key key w.if-key-ne0.false))
    ])

pub returns : goal.returns
returns c =
    let l = c in
    sym (distinct_all l.args.keys.now l.loop-place.place c.loop-place-test.false l.loop-place.invariant)

pub loop-place-init : goal.loop-place-init
loop-place-init c = apart_none _
