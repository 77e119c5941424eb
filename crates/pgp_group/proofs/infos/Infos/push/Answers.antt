use Rattle.pgp_group.proofs.Common.{◌≡◌, arith, max, nat_tests, refl}
use Rattle.pgp_group.proofs.InfosLemmas.{KeepsInfos-new}
use Rattle.pgp_group.proofs.infos.Infos.push.Goals as goal

pub returns-clause-ok : goal.returns-clause-ok
returns-clause-ok c = λ g after here told is.
    let later : c.max-self.result ≡ max c.args.self.now.les c.args.info.now.history_les = grind (arith, nat_tests, c.max-self.ensures) in
    KeepsInfos-new g after c.args.info.now c.args.at c.args.self.now _ here told is c.in_ok-push.ensures.ok later refl
