use Rattle.pgp_shard.proofs.Common.{◌≡◌, List, Option, false, true, length, map, option_map, sym, subst, arc_value, option_copied, some-weaker, Entry, view_at, scratch, AreOwnGroupsOf, owns, shard_with, epoch_of, Shard, is_own, Groups}
use Rattle.pgp_shard.specs.Shard.{is_marked}
use Rattle.pgp_shard.proofs.OwnGroupsLemmas.{view-told}
use Rattle.pgp_shard.proofs.KeptBesideLemmas.{groups-there}
use Rattle.pgp_shard.proofs.shard.ShardState.view_of.Goals as goal

pub returns-in-Some-clause-is : goal.returns-in-Some-clause-is
returns-in-Some-clause-is c =
    let owner = c.self.inside.owner in
    let front : List Entry = map arc_value c.self.inside.front.items in
    let pg = c.args.pg.now in
    let is : AreOwnGroupsOf owner front c.in-Some.groups = groups-there owner front c.self.inside.groups c.in-Some.groups c.self.invariant c.in-Some.is in
    let own : owns owner pg ≡ true = subst (λ (s : Shard). is_own s.shard s.shards pg ≡ true) (sym c.self.view_is) c.requires in
    subst (λ (s : Shard). is_marked s pg ≡ false → scratch s.front pg ≡ option_map (view_at (length s.front) (epoch_of s.front)) (option_copied c.view_of.result)) c.self.view_is
    (λ unmarked. view-told front c.in-Some.groups pg c.view_of.result (c.view_of.ensures.there owner front is own)
    (some-weaker c.view_of.result _ _ (λ view given. given owner front is) c.view_of.ensures.view)
    (subst (λ (o : Option Groups). is_marked (shard_with owner front o) pg ≡ false) c.in-Some.is unmarked))
