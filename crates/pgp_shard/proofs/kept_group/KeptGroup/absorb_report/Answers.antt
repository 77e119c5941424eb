use Rattle.pgp_shard.proofs.Common.{refl, on_ok_weaker, KeptGroup}
use Rattle.pgp_shard.proofs.KeptLemmas.{group-still, kept-told}
use Rattle.pgp_shard.proofs.kept_group.KeptGroup.absorb_report.Goals as goal

pub returns-clause-ok : goal.returns-clause-ok
returns-clause-ok c =
    let old : KeptGroup = c.args.self.now in
    on_ok_weaker c.absorb_report.result
    (λ given log none now past is. kept-told log c.args.entry.now old c.absorb_report.new.self none is
    (given log old.pg none past (group-still log old old.pg c.stay.new.self c.args.epoch is refl c.stay.ensures.is now)))
    c.absorb_report.ensures.ok
