use Rattle.std.proofs.Common.{◌≡◌, map, arith, ap, ◌∙◌, append-nil}
use Rattle.std.specs.Vec.{with_items}
use Rattle.std.proofs.lemmas.Grind.{common_steps}
use Rattle.std.proofs.lemmas.List.{take_all, drop_all}
use Rattle.std.proofs.lemmas.List.Edits.{map_over_more}
use Rattle.pgp_prior.specs.kept.JudgedInterval.{past_of, later_les}
use Rattle.pgp_prior.proofs.BasisLemmas.{later}
use Rattle.pgp_prior.proofs.IndexLemmas.{pasts-later}
use Rattle.pgp_prior.proofs.WayLemmas.{written}
use Rattle.pgp_prior.proofs.index.PriorIndex.set_les.Goals as goal

pub loop-kept-preserved : goal.loop-kept-preserved
loop-kept-preserved g c = grind (arith, common_steps, map_over_more (later_les c.args.les))

pub returns : goal.returns
returns g c = λ b is rises.
    let index = c.args.self.now in
    let past = c.loop-kept.past in
    let all = rw (take_all _ _ c.loop-kept-test.false, drop_all _ _ c.loop-kept-test.false, append-nil) at c.loop-kept.invariant in
    let now : past ≡ map (later_les c.args.les) index.past.items = all ∙ ap (map (later_les c.args.les)) c.as_mut_slice-past.ensures.value in
    later g.R.Recoverable.enough g.R.Recoverable.by_place b index is c.args.les (with_items index.past past) rises
    (written index.past past (ap (map past_of) now ∙ pasts-later c.args.les index.past.items) ∙ now)
