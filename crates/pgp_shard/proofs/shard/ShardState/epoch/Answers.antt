use Rattle.pgp_shard.proofs.Common.{List, map, arc_value, Entry, incs_of, AreOwnGroupsOf}
use Rattle.pgp_shard.proofs.KeptBesideLemmas.{groups-there}
use Rattle.pgp_shard.proofs.shard.ShardState.epoch.Goals as goal

pub returns : goal.returns
returns c =
    let front : List Entry = map arc_value c.self.inside.front.items in
    let is : AreOwnGroupsOf c.self.inside.owner front c.in-Some.groups = groups-there c.self.inside.owner front c.self.inside.groups c.in-Some.groups c.self.invariant c.in-Some.is in
    rw (← c.self.view_is) (c.epoch.ensures (incs_of front) is.map_is)
