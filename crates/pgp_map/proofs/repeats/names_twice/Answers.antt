use Rattle.std.proofs.Common.{[], map, refl}
use Rattle.pgp_map.specs.NumberSet.{has}
use Rattle.pgp_map.proofs.RepeatLemmas.{empty-set, met-is}
use Rattle.pgp_map.proofs.repeats.names_twice.Goals as goal

pub returns : goal.returns
returns g c = met-is (has c.empty.result) [] (map g.T.Naming.name c.args.items.now) _ c.meets.result (empty-set _ c.empty.ensures) refl c.meets.ensures.value
