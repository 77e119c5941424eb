use Rattle.std.proofs.Common.{◌≡◌, Decides, rules, subst, sym}
use Rattle.pgp_map.proofs.AlikeLemmas.{pool_Decides}
use Rattle.pgp_map.proofs.Same.{is_same_pool}
use Rattle.pgp_map.proofs.alike.is_pool_same.Goals as goal

pub returns : goal.returns
returns c =
    let answers : c.eq.result ≡ is_same_pool c.args.pool.now c.args.other.now = search rules in
    subst (λ r. Decides r (c.args.pool.now ≡ c.args.other.now)) (sym answers) (pool_Decides c.args.pool.now c.args.other.now)
