use Rattle.std.proofs.Common.{Some, refl, sym, ap, ◌∙◌, append-nil}
use Rattle.pgp_lines.proofs.Walks.{started, each_after-next}
use Rattle.pgp_lines.proofs.command.lists.SeqShape.read.Goals as goal

pub loop-item-init : goal.loop-item-init
loop-item-init g c = rw (c.new-found.ensures, ← c.in-Some.ensures) (started g.T.Shape.shape _)

pub loop-item-preserved : goal.loop-item-preserved
loop-item-preserved g c =
    let next = each_after-next g.T.Shape.shape c.loop-item.found _ _ _ _ c.in-Some-next.ensures.more (sym c.in-Some-2.is ∙ c.in_ok-item.ensures) in
    rw (c.in_ok-push-in-Some-2.ensures.ok, ← next) c.loop-item.invariant

pub returns-in-None : goal.returns-in-None
returns-in-None g c = rw (c.loop-item.invariant, c.in-Some-next.ensures.more, sym c.in_ok-item.ensures ∙ c.in-None.is) refl

pub returns : goal.returns
returns g c = rw (c.loop-item.invariant, c.in_default-next.ensures.end) (ap Some (sym (append-nil _)))
