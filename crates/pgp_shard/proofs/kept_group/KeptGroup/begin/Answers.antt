use Rattle.pgp_shard.proofs.Common.{refl}
use Rattle.pgp_shard.proofs.KeptLemmas.{kept-begun}
use Rattle.pgp_shard.proofs.kept_group.KeptGroup.begin.Goals as goal

pub returns-clause-is : goal.returns-clause-is
returns-clause-is c = λ log inc before step absent there.
    kept-begun log inc before c.args.after.now _ c.filter-members.result refl step absent there c.begin_members.ensures c.raw-raw.ensures c.filter-members.ensures c.copied_temp.ensures
