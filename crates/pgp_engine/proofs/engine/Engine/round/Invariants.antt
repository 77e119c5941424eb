use Rattle.pgp_engine.specs.Works.{IsRound}
use Rattle.pgp_engine.proofs.engine.Engine.round.Given as goal

abbrev pub invariant-loop-shard : goal.invariant-loop-shard
invariant-loop-shard g l = IsRound g.J.Naming.feed l.round
