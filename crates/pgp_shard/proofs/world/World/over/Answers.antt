use Rattle.pgp_shard.proofs.Common.{◌≡◌, ℕ, List, length, map, replicate, ap, ap₂, ◌∙◌, Entry, Shard, World}
use Rattle.pgp_shard.proofs.RunningLemmas.{openings-read, openings-running}
use Rattle.pgp_shard.proofs.world.World.over.Goals as goal

pub invariant_of-world : goal.invariant_of-world
invariant_of-world c = openings-running c.in_ok-log.log c.args.shards c.in_ok-all.all.items c.in_ok-all.ensures c.requires.some

pub returns : goal.returns
returns c =
    let make : List Entry → List ℕ → World = λ l r. record { log = l; read = r } in
    let read : map (λ (s : Shard). length s.front) c.in_ok-all.all.items ≡ replicate c.args.shards 0 =
    ap (map (λ (s : Shard). length s.front)) c.in_ok-all.ensures ∙ openings-read 0 c.args.shards c.args.shards in
    ap₂ make c.in_ok-log.ensures read
