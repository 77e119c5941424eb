use Rattle.pgp_group.proofs.Common.{◌≡◌, Some, subst, ap, sym, ◌∙◌, option_map, on_ok_weaker, PgId, then_with, membership, incs_of, primary_facts}
use Rattle.pgp_group.proofs.group.Group.absorb_map.Goals as goal

pub returns-clause-ok : goal.returns-clause-ok
returns-clause-ok c = on_ok_weaker c.absorb_members.result (λ given log pg inc is fine before after.
    given log pg inc is fine (ap (option_map (primary_facts (incs_of log))) (c.primary.ensures log pg is) ∙ ap Some (sym (c.primary_facts-facts.ensures (incs_of log) before))) after
    (subst (λ (q : PgId). membership (then_with (incs_of log) inc) q ≡ Some c.up_acting-members.result) is.keeps.pg_is
    (c.up_acting-members.ensures (then_with (incs_of log) inc) after)))
    c.absorb_members.ensures.ok
