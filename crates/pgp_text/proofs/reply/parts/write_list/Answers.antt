use Rattle.std.proofs.Common.{refl, ◌∙◌}
use Rattle.std.proofs.lemmas.Result.{on_ok_weaker}
use Rattle.pgp_text.proofs.Tokens.{item_written, items_written}
use Rattle.pgp_text.proofs.reply.parts.write_list.Goals as goal

pub loop-item-init : goal.loop-item-init
loop-item-init g c = (refl, refl)

pub loop-item-preserved : goal.loop-item-preserved
loop-item-preserved g c =
    let now = c.loop-item.invariant in
    (item_written (g.T.Json.value c.args.numbers) _ _ _ _ _ _ c.loop-item-test.true c.item-item.is c.in_ok-write.ensures.ok now.0, c.in_ok-write.ensures.before ∙ now.1)

pub returns-clause-ok : goal.returns-clause-ok
returns-clause-ok g c =
    on_ok_weaker c.end_array.result (λ e. items_written (g.T.Json.value c.args.numbers) _ _ _ _ _ _ c.loop-item-test.false c.in_ok-begin_array.ensures.ok c.loop-item.invariant.0 e)
    c.end_array.ensures.ok
