use Rattle.std.proofs.Common.{rules}
use Rattle.std.specs.Option.{option_copied}
use Rattle.pgp_map.proofs.AlikeLemmas.{trees_Decide}
use Rattle.pgp_map.proofs.alike.are_trees_alike.Goals as goal

pub returns-in-Some-Some : goal.returns-in-Some-Some
returns-in-Some-Some c =
    trees_Decide c.buckets.result.now c.buckets-in-Some-Some.result.now (option_copied c.args.tree) (option_copied c.args.other) (search rules) (search rules)
    c.eq.result c.eq.ensures (λ a b. search rules)
