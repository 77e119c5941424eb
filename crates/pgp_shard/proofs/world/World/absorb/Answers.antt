use Rattle.pgp_shard.proofs.Common.{length, ap, ◌∙◌, arith, length-map, is_legal, Shard, World}
use Rattle.pgp_shard.proofs.RunningLemmas.{IsShardAt, absorbed-reply, reading-at, still-running}
use Rattle.pgp_shard.proofs.world.World.absorb.Goals as goal
use Rattle.pgp_shard.proofs.world.World.absorb.Goals.{After-index_mut-state}

here : (c : After-index_mut-state) → IsShardAt c.self.inside.log c.self.inside.shards.items c.args.shard c.index_mut-state.result.now
here c = record {
  running = c.self.invariant;
  there = omega (arith, c.requires, ap (λ (w : World). length w.read) c.self.view_is, length-map c.self.inside.shards.items (λ (s : Shard). length s.front));
  here = c.index_mut-state.ensures.value;
}

pub absorb_next-requires : goal.absorb_next-requires
absorb_next-requires c = record {
  legal = ap is_legal c.entries.ensures.entries ∙ c.entries.ensures.legal;
  front = rw c.entries.ensures.entries (reading-at (here (goal.at.absorb_next-requires c).After-index_mut-state)).front_is;
}

pub invariant_of-self : goal.invariant_of-self
invariant_of-self c =
    let at = here (goal.at.invariant_of-self c).After-index_mut-state in
    still-running at c.absorb_next.new.self ((rw c.entries.ensures.entries at c.absorb_next.ensures.reading) (length c.self.inside.shards.items) c.args.shard (reading-at at))

pub returns-clause-reply : goal.returns-clause-reply
returns-clause-reply c =
    rw (← c.self.view_is)
    (absorbed-reply c.self.inside.log c.self.inside.shards.items c.args.shard c.args.count _ c.absorb_next.new.self c.absorb_next.result (here (goal.at.returns-clause-reply c).After-index_mut-state)
    (rw c.entries.ensures.entries at c.absorb_next.ensures.ok) (rw c.entries.ensures.entries at c.absorb_next.ensures.err))
