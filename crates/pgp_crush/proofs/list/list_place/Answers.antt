use Rattle.std.proofs.lemmas.Grind.{common_steps}
use Rattle.std.proofs.Common.{◌-◌, FitsSigned, arith, rules, slice_index_or, pos, length, sym, ◌∙◌}
use Rattle.std.specs.Int.{w32}
use Rattle.std.proofs.lemmas.Int.{to_z-of_z}
use Rattle.std.proofs.lemmas.List.{take_all}
use Rattle.pgp_crush.proofs.ChoiceLemmas.{list_place_is, place_below-more, place_below-none}
use Rattle.pgp_crush.proofs.list.list_place.Goals as goal

pub returns-then-share-from-clause-value : goal.returns-then-share-from-clause-value
returns-then-share-from-clause-value c =
    let fits : FitsSigned w32 (slice_index_or c.args.items.now (c.loop-i.i - 1) (pos 0)) = search rules in
    grind (arith, place_below-more, to_z-of_z)

pub loop-i-preserved : goal.loop-i-preserved
loop-i-preserved c =
    let fits : FitsSigned w32 (slice_index_or c.args.items.now (c.loop-i.i - 1) (pos 0)) = search rules in
    record {
      left = omega arith;
      total_is = grind (arith, common_steps);
      same = grind (arith, place_below-more, to_z-of_z);
    }

pub overflow_sub-total : goal.overflow_sub-total
overflow_sub-total c = grind (arith, common_steps)

pub returns-clause-value : goal.returns-clause-value
returns-clause-value c =
    sym (c.loop-i.invariant.same ∙ place_below-none c.args.x c.args.r c.args.id c.args.items.now c.args.weights.now c.loop-i.i (omega arith))

pub loop-i-init : goal.loop-i-init
loop-i-init c = record {
  left = omega arith;
  total_is = rw (take_all (length c.args.items.now) c.args.weights.now (omega arith)) (search rules);
  same = list_place_is c.args.x c.args.r c.args.id c.args.items.now c.args.weights.now;
}
