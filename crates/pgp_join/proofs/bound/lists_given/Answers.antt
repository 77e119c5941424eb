use Rattle.std.proofs.Common.{◌≡◌, ap, arith, length, take}
use Rattle.std.proofs.lemmas.Grind.{common_steps}
use Rattle.std.proofs.lemmas.List.Folds.{flat_map-map}
use Rattle.std.specs.List.{flat_map}
use Rattle.pgp_ids.specs.declared.incremental.Incremental.{Incremental}
use Rattle.pgp_join.specs.declared.starts.Placed.{Placed}
use Rattle.pgp_join.proofs.bound.lists_given.Goals as goal

pub returns : goal.returns
returns c =
    let all : take c.loop-it.it-index c.args.incs.now ≡ c.args.incs.now = grind (arith, common_steps) in
    omega (
      arith,
      c.loop-it.invariant,
      ap (λ l. length (flat_map (λ (placed : Placed). placed.inc.now.temp) l)) all,
      ap length (flat_map-map (λ (inc : Incremental). inc.temp) (λ (placed : Placed). placed.inc.now) c.args.incs.now),
    )
