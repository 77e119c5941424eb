use Rattle.pgp_shard.proofs.Common.{◌≡◌, length, ap, ◌∙◌, arith, shard_of}
use Rattle.pgp_shard.proofs.RunningLemmas.{IsShardAt, asked-reply, own-at, still-asked}
use Rattle.pgp_shard.proofs.world.World.ask.Goals as goal
use Rattle.pgp_shard.proofs.world.World.ask.Goals.{After-index_mut-state}

here : (c : After-index_mut-state) → IsShardAt c.self.inside.log c.self.inside.shards.items c.shard_of-shard.result c.index_mut-state.result.now
here c = record { running = c.self.invariant; there = omega (arith, c.shard_of-shard.ensures.within, c.len.ensures); here = c.index_mut-state.ensures.value }

number : (c : After-index_mut-state) → c.shard_of-shard.result ≡ shard_of (length c.self.inside.shards.items) c.args.pg
number c =
    let many : c.len.result ≡ length c.self.inside.shards.items = omega (arith, c.len.ensures) in
    c.shard_of-shard.ensures.number ∙ ap (λ n. shard_of n c.args.pg) many

pub ask-requires : goal.ask-requires
ask-requires c = let known = (goal.at.ask-requires c).After-index_mut-state in own-at (here known) c.args.pg (number known)

pub invariant_of-self : goal.invariant_of-self
invariant_of-self c = still-asked (here (goal.at.invariant_of-self c).After-index_mut-state) c.ask.new.self c.ask.ensures.same

pub returns-clause-reply : goal.returns-clause-reply
returns-clause-reply c =
    let known = (goal.at.returns-clause-reply c).After-index_mut-state in
    rw (← c.self.view_is)
    (asked-reply c.self.inside.log c.self.inside.shards.items c.args.pg c.shard_of-shard.result _ c.ask.new.self c.ask.result (here known) (number known)
    c.ask.ensures.same c.ask.ensures.ok c.ask.ensures.unknown c.ask.ensures.wants)
