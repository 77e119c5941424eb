use Rattle.pgp_shard.proofs.Common.{is_some, ap}
use Rattle.pgp_shard.proofs.ShardLemmas.{unmarked-now}
use Rattle.pgp_shard.proofs.shard.ShardState.ask.Goals as goal

pub copy-requires-clause-kept : goal.copy-requires-clause-kept
copy-requires-clause-kept c = ap is_some (c.in_ok-work_out.ensures.marks (λ e. cc)).left

pub copy-requires-clause-unmarked : goal.copy-requires-clause-unmarked
copy-requires-clause-unmarked c = unmarked-now c.args.pg c.args.self.now c.work_out.new.self (c.in_ok-work_out.ensures.marks (λ e. cc))
