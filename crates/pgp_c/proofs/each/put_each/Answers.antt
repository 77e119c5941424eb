use Rattle.std.proofs.Common.{◌∙◌, ap, ap₂, slice_set}
use native.Mathlib.Numerals.{unary_clauses}
use Rattle.pgp_c.proofs.EachLemmas.{put-next, put-all}
use Rattle.pgp_c.proofs.each.put_each.Goals as goal

pub loop-index-preserved : goal.loop-index-preserved
loop-index-preserved g c = simp unary_clauses
    (ap₂ (λ r v. slice_set r c.loop-index.index v) c.loop-index.invariant (c.as_c.ensures ∙ ap g.T.AsC.as_c c.index-values-index.is)
    ∙ put-next g.T.AsC.as_c c.args.values.now c.args.room.now c.loop-index.index c.index-values-index.result c.loop-index-test.true c.if-values-room.false)

pub returns-clause-room : goal.returns-clause-room
returns-clause-room g c =
    c.loop-index.invariant ∙ put-all g.T.AsC.as_c c.args.values.now c.args.room.now c.loop-index.index c.loop-index-test.false c.loop-index.auto.index-end c.if-values-room.false
