use Rattle.std.specs.Prelude as code
use Rattle.base.{specs.Base.{◌≡◌, ◌>>◌, refuse_if, as_option, as_checked, BareStream, bare_at, bare, namespace, StreamNo}, proofs.Laws.{sym, ap, ◌∙◌, eq-eqb, ne_eqb}}
use Rattle.components.specs.Positions.{part_of}
use Rattle.consistency.proofs.Derived.{bare_at_lem}
use Rattle.layout.specs.Layout.{decode}
use Rattle.open_steps.specs.Targets.{as_target}
use Rattle.store.specs.Target.{target_data}
use Rattle.stream_lookup.specs.StreamLookup.{find_stream}
use Rattle.target.proofs.target_data.Goals as goal
use Rattle.target.proofs.target_data.Goals.{After-find_stream, After-read_stream_mark}

-- the definition's search, by what the code's found
found : {x : code.Option StreamNo} (f : After-find_stream) →
    let a = f.args in
    f.find_stream.result ≡ x
    → find_stream (namespace (decode a.b.now).volume) a.r.fold a.at.file (part_of a.path.now a.leaf.stream) ≡ as_option x
found f e = rw (← f.part_of.ensures) (sym f.find_stream.ensures ∙ ap as_option e)

-- the mark of the stream that was found
marked : (m : After-read_stream_mark) →
    let k = m in
    let a = k.args in
    m.read_stream_mark.result ≡ (bare_at (namespace (decode a.b.now).volume).streams k.in-Some.stream).delete_pending
unfolding namespace bare
marked m = m.read_stream_mark.ensures ∙ sym (ap (λ (s : BareStream). s.delete_pending) (bare_at_lem _ _))

pub returns-then-read_stream_mark : goal.returns-then-read_stream_mark
unfolding as_checked as_option as_target target_data refuse_if ◌>>◌
returns-then-read_stream_mark c =
    let at = goal.at.returns-then-read_stream_mark c in
    rw (found at.After-find_stream c.in-Some.is, ← marked at.After-read_stream_mark, c.if-read_stream_mark.true)

pub returns-then-r-eq-CREATE : goal.returns-then-r-eq-CREATE
unfolding as_checked as_option as_target target_data refuse_if ◌>>◌
returns-then-r-eq-CREATE c =
    let at = goal.at.returns-then-r-eq-CREATE c in
    rw (found at.After-find_stream c.in-Some.is, ← marked at.After-read_stream_mark, c.if-read_stream_mark.false, eq-eqb _ _ c.if-r-eq-CREATE.true)

pub returns-then-adds_nothing : goal.returns-then-adds_nothing
unfolding as_checked as_option as_target target_data refuse_if ◌>>◌
returns-then-adds_nothing c =
    rw (found (goal.at.returns-then-adds_nothing c).After-find_stream c.in-None.is, ← c.adds_nothing.ensures, c.if-adds_nothing.true)

pub returns-else-r-eq-CREATE : goal.returns-else-r-eq-CREATE
unfolding as_checked as_option as_target target_data refuse_if ◌>>◌
returns-else-r-eq-CREATE c =
    let at = goal.at.returns-else-r-eq-CREATE c in
    rw (found at.After-find_stream c.in-Some.is, ← marked at.After-read_stream_mark, c.if-read_stream_mark.false, ne_eqb _ _ c.if-r-eq-CREATE.false)

pub returns-else-adds_nothing : goal.returns-else-adds_nothing
unfolding as_checked as_option as_target target_data refuse_if ◌>>◌
returns-else-adds_nothing c =
    rw (found (goal.at.returns-else-adds_nothing c).After-find_stream c.in-None.is, ← c.adds_nothing.ensures, c.if-adds_nothing.false)
