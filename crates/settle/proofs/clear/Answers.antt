use Rattle.base.{specs.Base.{◌+◌}, proofs.Laws.{sym, ◌∙◌, arith}}
use Rattle.settle.proofs.Underway.{begins, goes_on, skips, ends}
use Rattle.settle.proofs.clear.Goals as goal
use Rattle.settle.proofs.clear.Goals.{then-is_of, else-is_of}

pub loop-i-init : goal.loop-i-init
loop-i-init g c = begins (g.T.OfFile.without_from 0 c.args.f) (omega arith)

pub loop-i-preserved : goal.loop-i-preserved
loop-i-preserved g c =
    let t = g.T.OfFile in
    let laws = g.met.T.OfFile.laws in
    let f = c.args.f in
    let i = c.loop-i.i in
    elim c.if-is_of.branch [
      | then-is_of w ↦
          rw w.b-is
          (goes_on c.loop-i.invariant (t.without_from (i + 1) f) w.free.ensures
          (laws.frees c.loop-i.b f i (omega arith) (sym c.is_of.ensures ∙ w.if-is_of.true)))
      | else-is_of w ↦
          rw w.b-is
          (skips c.loop-i.invariant (t.without_from (i + 1) f)
          (laws.keeps c.loop-i.b f i (omega arith) (sym c.is_of.ensures ∙ w.if-is_of.false)))
    ]

pub returns : goal.returns
returns g c =
    ends c.loop-i.invariant (g.met.T.OfFile.laws.ends c.loop-i.b c.args.f c.loop-i.i (omega arith))
