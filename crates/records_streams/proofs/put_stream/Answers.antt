-- The fields are written side by side.
use Rattle.base.{specs.Base.{ℕ, ◌+◌, ◌≡◌, List, ◌++◌, ShareCounts}, proofs.Laws.{sym, ◌∙◌, ap, subst, arith}}
use Rattle.codecs.proofs.Rows.{row_after}
use Rattle.layout.{specs.{Fits.CountsFit, Records.counts_codec}, proofs.{Records.counts_lawful, Typed.stream_fits}}
use Rattle.little_endian.{specs.Writes.Wrote, proofs.{Numbers.after, Parts.then}}
use Rattle.records.proofs.Lengths.{stream_name_length}
use Rattle.records_streams.proofs.put_stream.Goals as goal

-- the counts written, and something after them
counts-after : {l m o ys : List ℕ} {at at' : ℕ} (c : ShareCounts) → CountsFit c → at' ≡ at + counts_codec.size
    → Wrote l at (counts_codec.encode c) m → Wrote m at' ys o → Wrote l at (counts_codec.encode c ++ ys) o
counts-after {m = m} {o = o} {ys = ys} {at = at} {at' = at'} c h e a b =
    then a (subst (λ (k : ℕ). Wrote m k ys o) (e ∙ ap (λ (k : ℕ). at + k) (sym (counts_lawful.long c h))) b)

pub write_units-requires : goal.write_units-requires
write_units-requires c =
    let n = stream_name_length c.args.s _ c.well_formed.1.1.0 in
    omega arith

pub returns : goal.returns
returns c =
    let n = stream_name_length c.args.s _ c.well_formed.1.1.0 in
    let fits = stream_fits c.args.s _ c.well_formed.1.1.0 in
    after 2 _ (omega arith) (rw c.kind_number.ensures at c.write_u16.ensures)
    (after 2 _ (omega arith) c.write_u16-2.ensures
    (row_after 2 c.args.s.name (omega arith) c.write_units.ensures
    (counts-after c.args.s.counts fits.counts (omega arith) c.put_counts.ensures
    (rw c.mark_number.ensures at c.write_u16-3.ensures))))
