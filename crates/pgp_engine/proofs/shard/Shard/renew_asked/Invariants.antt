use Rattle.pgp_engine.specs.Shards.{StaysThere}
use Rattle.pgp_engine.proofs.shard.Shard.renew_asked.Given as goal

abbrev pub invariant-loop : goal.invariant-loop
invariant-loop g l = StaysThere l.fn.self l.self
