use Rattle.base.{specs.Base.{◌≡◌, get_or, is_used, file_used, zero_file}, proofs.Laws.{refl, sym, ap, ◌∙◌, arith, numbered_stops, numbered_next, numbered_end}}
use Rattle.layout.{specs.Layout.decode, proofs.Lengths.files_count}
use Rattle.tables.specs.Tables.{file_at}
use Rattle.audit_links.specs.Linked.{file_linked}
use Rattle.audit_links.proofs.files_linked.Goals as goal
use Rattle.audit_links.proofs.files_linked.Goals.{After-is_used, else-is_used-via-then-is_used+else-not-linked_at, else-is_used-via-else-is_used}

-- whether the file at place i is used, as its type says
used : (c : After-is_used) → c.is_used.result ≡ file_used (get_or (decode c.args.b.now).volume.files c.loop-i.i zero_file)
unfolding file_at file_used
used c = c.is_used.ensures ∙ ap is_used c.read_file_type.ensures

pub returns-then-not-linked_at : goal.returns-then-not-linked_at
unfolding file_linked
returns-then-not-linked_at c =
    let u = (goal.at.returns-then-not-linked_at c).After-is_used in
    let a = c.args in
    let h = files_count a.b.now in
    sym
    (c.loop-i.invariant
    ∙ numbered_stops (file_linked a.counts.now a.up.now) (decode a.b.now).volume.files c.loop-i.i zero_file (omega arith)
    (rw (← used u, c.if-is_used.true, ← c.linked_at.ensures) c.if-not-linked_at.true))

pub loop-i-preserved : goal.loop-i-preserved
unfolding file_linked
loop-i-preserved c =
    let u = (goal.at.loop-i-preserved c).After-is_used in
    let a = c.args in
    let h = files_count a.b.now in
    c.loop-i.invariant
    ∙ numbered_next (file_linked a.counts.now a.up.now) (decode a.b.now).volume.files c.loop-i.i zero_file (omega arith)
    (elim c.else-is_used.branch [
      | else-is_used-via-then-is_used+else-not-linked_at w ↦ rw (← used u, w.if-is_used.true, ← w.linked_at.ensures) w.if-not-linked_at.false
      | else-is_used-via-else-is_used w ↦ rw (← used u, w.if-is_used.false)
    ])

pub returns : goal.returns
returns c =
    let a = c.args in
    let h = files_count a.b.now in
    sym
    (c.loop-i.invariant
    ∙ numbered_end (file_linked a.counts.now a.up.now) (decode a.b.now).volume.files c.loop-i.i (omega arith))

pub loop-i-init : goal.loop-i-init
loop-i-init c = refl
