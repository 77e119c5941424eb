use Rattle.std.proofs.Common.{rules, tests}
use Rattle.std.proofs.lemmas.Iterator.Consumers.{YieldsList-from_first}
use Rattle.std.proofs.lemmas.Iterator.Search.{any_from_yields_List}
use Rattle.pgp_prior.specs.Blocks.{is_down}
use Rattle.pgp_prior.proofs.blocking.has_down.Goals as goal

pub returns : goal.returns
returns g c =
    any_from_yields_List (λ member. is_down (g.S.StatusOf.status_of c.args.statuses.now member.osd c.args.past.now.first)) _ _ _ c.any.ensures.ran
    (YieldsList-from_first (λ member. member) (λ rest. rest) _ c.members_of.ensures.members) (λ x b q k. search (rules, tests))
