use Rattle.pgp_group.proofs.Common.{GroupLog, cleans, group_with}
use Rattle.pgp_group.proofs.GroupLemmas.{IsGroupOf-reckoned, IsGroupOf-kept}
use Rattle.pgp_group.proofs.group.Group.view.Goals as goal

pub returns-clause-same : goal.returns-clause-same
returns-clause-same c = λ log pg kept map_is.
    let g : GroupLog = group_with log pg kept.history in
    let heard = c.hear_more.ensures.kept g kept.keeps (record { map_is = map_is; first_is = c.current-first.ensures.first kept.history (cleans g) kept.keeps.intervals_are }) in
    IsGroupOf-reckoned log pg c.args.self.now c.hear_more.new.self c.look.new.self kept heard
    (c.look.ensures.kept g heard.intervals_are heard.infos_are.les_is)

pub returns-in_err-hear_more-clause-same : goal.returns-in_err-hear_more-clause-same
returns-in_err-hear_more-clause-same c = λ log pg kept map_is.
    IsGroupOf-kept log pg c.args.self.now _ kept
    (c.hear_more.ensures.kept (group_with log pg kept.history) kept.keeps
    (record { map_is = map_is; first_is = c.current-first.ensures.first kept.history (cleans (group_with log pg kept.history)) kept.keeps.intervals_are }))

pub returns-in_err-look-clause-same : goal.returns-in_err-look-clause-same
returns-in_err-look-clause-same c = λ log pg kept map_is.
    let g : GroupLog = group_with log pg kept.history in
    let heard = c.hear_more.ensures.kept g kept.keeps (record { map_is = map_is; first_is = c.current-first.ensures.first kept.history (cleans g) kept.keeps.intervals_are }) in
    IsGroupOf-reckoned log pg c.args.self.now c.hear_more.new.self c.look.new.self kept heard
    (c.look.ensures.kept g heard.intervals_are heard.infos_are.les_is)
