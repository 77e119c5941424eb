use Rattle.std.proofs.Common.{◌∙◌, ap, rules, get_or, List, ℕ}
use Rattle.pgp_map.proofs.WeightLemmas.{full_weights}
use Rattle.pgp_map.proofs.weights.Weights.place.Goals as goal

pub returns-in_ok-self-clause-same : goal.returns-in_ok-self-clause-same
returns-in_ok-self-clause-same c = λ q. ap (λ (xs : List ℕ). get_or xs q 65536) (c.in_ok-self.ensures.items_if_clones_equal (λ y e. e))
    ∙ full_weights c.args.self.now.table.items 4096 65536 q (search rules)
