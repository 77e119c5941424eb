use Rattle.pgp_group.proofs.Common.{◌≡◌, Some, ap, refl, sym, ◌∙◌, option_map, pool, incs_of, PoolSpec}
use Rattle.pgp_group.proofs.GroupLemmas.{IsGroupOf-begun}
use Rattle.pgp_group.proofs.group.Group.begin_members.Goals as goal

pub returns : goal.returns
returns c = λ log counts is there now silent lies.
    let kind = c.unwrap.result.kind in
    let members = c.args.members in
    let made : option_map (λ (spec : PoolSpec). spec.kind) (pool (incs_of log) c.args.pg.pool) ≡ Some kind =
    ap (option_map (λ (spec : PoolSpec). spec.kind)) (sym (c.pool.ensures.value (incs_of log) is) ∙ c.unwrap.ensures) in
    IsGroupOf-begun log c.args.pg kind members _ counts there now silent made lies refl c.new-2.ensures c.new-3.ensures
    (rw (← c.of_pool.ensures, ← c.epoch.ensures (incs_of log) is) c.begin-intervals.ensures) c.new.ensures
    (λ g code_is. c.begin-reckoned.ensures g (c.code.ensures ∙ c.begin-intervals.ensures.code_is ∙ c.of_pool.ensures ∙ sym code_is))
