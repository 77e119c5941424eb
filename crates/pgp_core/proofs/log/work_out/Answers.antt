use Rattle.pgp_shard.proofs.ShardLemmas.{unmarked-now}
use Rattle.pgp_core.proofs.log.work_out.Goals as goal

pub returns-in-Ok-clause-unmarked : goal.returns-in-Ok-clause-unmarked
returns-in-Ok-clause-unmarked c = unmarked-now c.args.pg.now c.args.shard.now c.work_out.new.self (c.work_out.ensures.marks (λ e. cc))

pub returns-in-Err-UnknownGroup-clause-unmarked : goal.returns-in-Err-UnknownGroup-clause-unmarked
returns-in-Err-UnknownGroup-clause-unmarked c = unmarked-now c.args.pg.now c.args.shard.now c.work_out.new.self (c.work_out.ensures.marks (λ e. cc))
