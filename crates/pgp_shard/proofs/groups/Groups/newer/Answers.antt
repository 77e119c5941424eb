use Rattle.pgp_shard.proofs.Common.{◌≡◌, List, Some, length, refl, sym, ap, ◌∙◌, slice_get, slice_get_read, KeptGroup}
use Rattle.pgp_log.proofs.SharedLemmas.{on_err}
use Rattle.pgp_shard.proofs.KeptLemmas.{kept-inc}
use Rattle.pgp_shard.proofs.groups.Groups.newer.Goals as goal

pub returns-in_err-push-clause-wants : goal.returns-in_err-push-clause-wants
returns-in_err-push-clause-wants c =
    let groups : List KeptGroup = c.deref-kept-items.result.now in
    let i = c.loop-kept.kept-index in
    let kept : KeptGroup = c.kept-item.result in
    let at : slice_get groups i ≡ Some kept = slice_get_read groups (length groups) i kept refl c.loop-kept-test.true c.kept-item.is in
    on_err c.from_residual.result _ (λ owner log are.
    kept-inc log kept (are.groups_are.each.each i kept (ap (λ (l : List KeptGroup). slice_get l i) (sym c.deref-kept-items.ensures.value) ∙ at)))
