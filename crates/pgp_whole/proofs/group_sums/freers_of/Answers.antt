use Rattle.std.proofs.Common.{[], ◌∷◌, ap, ◌∙◌}
use Rattle.std.specs.List.{filter}
use Rattle.std.proofs.lemmas.List.{take_all}
use Rattle.pgp_reasons.specs.GroupWays.{brings_back}
use Rattle.pgp_whole.proofs.SummaryGroups.{is-view}
use Rattle.pgp_whole.proofs.group_sums.freers_of.Goals as goal

pub returns : goal.returns
returns c = λ log g viewed.
    c.loop-osd.invariant log g viewed
    ∙ ap (filter (λ osd. brings_back g (osd ∷ [])))
    (take_all c.loop-osd.osd-index c.blockers_of-osd-items.result.now c.loop-osd-test.false
    ∙ c.blockers_of-osd-items.ensures g (is-view log c.args.map.now c.args.pg.now c.args.view.now g viewed))
