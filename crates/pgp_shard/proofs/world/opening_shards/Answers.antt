use Rattle.pgp_shard.proofs.Common.{[], ◌∷◌, ◌++◌, List, ap₂, sym, ◌∙◌, Shard}
use Rattle.pgp_shard.proofs.RunningLemmas.{openings-more}
use Rattle.pgp_shard.proofs.world.opening_shards.Goals as goal

pub loop-shard-preserved : goal.loop-shard-preserved
loop-shard-preserved c =
    c.in_ok-push.ensures.items ∙ ap₂ (λ (l : List Shard) (s : Shard). l ++ s ∷ []) c.loop-shard.invariant c.start.ensures
    ∙ sym (openings-more c.args.shards c.loop-shard.shard)
