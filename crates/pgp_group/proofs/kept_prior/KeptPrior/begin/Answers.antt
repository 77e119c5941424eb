use Rattle.pgp_group.proofs.Common.{refl, Up}
use Rattle.pgp_group.proofs.PriorLemmas.{KeepsPrior-begun}
use Rattle.pgp_group.proofs.kept_prior.KeptPrior.begin.Goals as goal

pub returns : goal.returns
returns c = λ g code_is.
    KeepsPrior-begun g _ c.args.current c.new.result c.args.code (λ osd first. Up) code_is refl c.new.ensures (c.begin.ensures (λ osd first. Up))
