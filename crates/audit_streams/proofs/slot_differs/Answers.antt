-- Each way through the tests is one case of the definition.
use Rattle.base.{specs.Base.{not, bare, bare_used, stream_used}, proofs.Laws.{sym, ◌∙◌, ap, eqb-true, eqb-false, not-true, not-false}}
use Rattle.records.proofs.Lengths.{stream_name_length}
use Rattle.audit_streams.proofs.{Streams.{stream_read, file_read, other_file, free_differs, same-file}}
use Rattle.audit_streams.proofs.slot_differs.Goals as goal

pub returns-then-ne : goal.returns-then-ne
unfolding bare
returns-then-ne c =
    let a = c.args in
    sym
    (other_file (bare a.s) _
    (λ e. eqb-false _ _ (not-true _ (sym c.ne.ensures ∙ c.if-ne.true)) (sym (file_read a.b.now a.n c.read_stream_file.ensures ∙ e))))

pub returns-then-not-stream_used : goal.returns-then-not-stream_used
unfolding bare bare_used stream_used
returns-then-not-stream_used c =
    let a = c.args in
    rw (← stream_read a.b.now a.n c.read_stream-q.ensures, c.if-not-stream_used.true)
    (sym (free_differs (bare a.s) _ (sym c.stream_used.ensures ∙ c.if-not-stream_used.true)))

pub slice_bounds-same_names-end : goal.slice_bounds-same_names-end
slice_bounds-same_names-end c =
    sym (stream_name_length c.args.s _ c.well_formed.1.0)

pub returns-else-not-stream_used : goal.returns-else-not-stream_used
unfolding bare bare_used stream_used
returns-else-not-stream_used c =
    let a = c.args in
    let file = eqb-true _ _ (not-false _ (sym c.ne.ensures ∙ c.if-ne.false)) in
    rw (← stream_read a.b.now a.n c.read_stream-q.ensures)
    (ap not c.same_names.ensures
    ∙ sym (same-file (bare a.s) _ (cc) (sym c.stream_used.ensures ∙ c.if-not-stream_used.false)))
