use Rattle.std.proofs.Common.{sym, ◌∙◌, arith, length-append}
use Rattle.pgp_lines.proofs.Walks.{list_after-start, list_after-next, list_after-end, list_after-few, list_after-many, list_after-bad}
use Rattle.pgp_lines.proofs.command.lists.read_list_within.Goals as goal

pub loop-item-init : goal.loop-item-init
loop-item-init g c =
    let none = c.new-found.ensures in
    (rw none (list_after-start g.T.Shape.shape _ _ _ _ c.in-Some.ensures), rw none (omega arith))

pub loop-item-preserved : goal.loop-item-preserved
loop-item-preserved g c =
    let more = c.in_ok-push-in-Some-2.ensures.ok in
    let next = list_after-next g.T.Shape.shape c.args.low c.args.high c.loop-item.found _ _ _ _ c.in-Some-next.ensures.more (sym c.in_ok-item.ensures ∙ c.in-Some-2.is) in
    (rw (more, ← next) c.loop-item.invariant.0, rw (more, length-append) (omega arith))

pub returns-then-len-high : goal.returns-then-len-high
returns-then-len-high g c = sym (c.loop-item.invariant.0 ∙ list_after-many g.T.Shape.shape _ _ _ _ _ _ c.in-Some-next.ensures.more (omega arith))

pub returns-in-None : goal.returns-in-None
returns-in-None g c =
    sym (c.loop-item.invariant.0 ∙ list_after-bad g.T.Shape.shape _ _ _ _ _ _ c.in-Some-next.ensures.more (sym c.in_ok-item.ensures ∙ c.in-None.is))

pub returns-then-len-low : goal.returns-then-len-low
returns-then-len-low g c = sym (c.loop-item.invariant.0 ∙ list_after-few g.T.Shape.shape _ _ _ _ c.in_default-next.ensures.end (omega arith))

pub returns : goal.returns
returns g c = sym (c.loop-item.invariant.0 ∙ list_after-end g.T.Shape.shape _ _ _ _ c.in_default-next.ensures.end (omega arith) c.loop-item.invariant.1)
