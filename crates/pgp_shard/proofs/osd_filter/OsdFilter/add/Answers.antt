use Rattle.pgp_shard.proofs.Common.{ℕ, subst, Covers}
use Rattle.pgp_shard.proofs.OsdFilterLemmas.{added, still-added, with_osd}
use Rattle.pgp_shard.proofs.osd_filter.OsdFilter.add.Goals as goal

pub returns-clause-there : goal.returns-clause-there
returns-clause-there c =
    let number : ℕ = c.number-number.result in
    subst (Covers (with_osd c.args.self.now number)) c.number-number.ensures.value (added c.args.self.now number c.number-number.ensures.in_range)

pub returns-clause-still : goal.returns-clause-still
returns-clause-still c = still-added c.args.self.now c.number-number.result
