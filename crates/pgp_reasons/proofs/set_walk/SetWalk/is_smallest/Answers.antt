use Rattle.std.proofs.Common.{◌≡◌, true, false, refl, sym, ◌∙◌, arith, append-nil}
use Rattle.std.specs.List.{list_any}
use Rattle.std.proofs.Math.Bool.{and-false}
use Rattle.std.proofs.lemmas.Grind.{common_steps}
use Rattle.pgp_reasons.specs.Smallest.{each_but_one}
use Rattle.pgp_reasons.proofs.SetLemmas.{found-at, none-more, none-all}
use Rattle.pgp_reasons.proofs.set_walk.SetWalk.is_smallest.Goals as goal

pub returns-then-branch-clause-said : goal.returns-then-branch-clause-said
returns-then-branch-clause-said g c =
    let enough = g.E.Enough.enough c.args.judge.now in
    let found : list_any enough (each_but_one c.args.set.now) ≡ true = found-at enough c.args.set.now c.loop-place.place c.loop-place-test.true (grind (arith, common_steps)) in
    rw found (sym (and-false (enough c.args.set.now)))

pub loop-place-preserved : goal.loop-place-preserved
loop-place-preserved g c = record {
  kept = c.look-in-loop-place.ensures.kept ∙ c.loop-place.invariant.kept;
  counted = omega (arith, c.look-in-loop-place.ensures.counted, c.loop-place.invariant.counted);
  none = none-more (g.E.Enough.enough c.args.judge.now) c.args.set.now c.loop-place.place c.loop-place-test.true c.loop-place.invariant.none (grind (arith, common_steps));
}

pub returns-clause-said : goal.returns-clause-said
returns-clause-said g c =
    let enough = g.E.Enough.enough c.args.judge.now in
    let whole : enough c.args.set.now ≡ true = grind (arith, common_steps, append-nil c.args.set.now) in
    let none : list_any enough (each_but_one c.args.set.now) ≡ false = none-all enough c.args.set.now c.loop-place.place c.loop-place-test.false c.loop-place.invariant.none in
    rw (whole, none) refl
