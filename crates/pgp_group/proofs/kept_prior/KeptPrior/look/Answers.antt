use Rattle.pgp_group.proofs.Common.{on_ok_weaker, cleans}
use Rattle.pgp_group.proofs.PriorLemmas.{KeepsPrior-abreast, reckoned}
use Rattle.pgp_group.proofs.kept_prior.KeptPrior.look.Goals as goal

pub returns-clause-ok : goal.returns-clause-ok
returns-clause-ok c =
    on_ok_weaker c.add_more.result (λ all g at is since keeps.
    reckoned g c.args.map.now c.add_more.new.self.index c.add_more.new.self.noted.items at
    (all g is (c.renew.ensures.abreast g (c.current-current.ensures.members g.history (cleans g) is) since keeps)))
    c.add_more.ensures.all

pub returns-clause-kept : goal.returns-clause-kept
returns-clause-kept c = λ g is since keeps.
    KeepsPrior-abreast g c.args.map.now c.add_more.new.self
    (c.add_more.ensures.kept g is (c.renew.ensures.abreast g (c.current-current.ensures.members g.history (cleans g) is) since keeps))
