use Rattle.std.proofs.Common.{false, ap, ◌∙◌}
use Rattle.std.specs.HashMap as hash
use Rattle.std.specs.Option.{option_map_or}
use Rattle.pgp_group.specs.Heard.{is_counted}
use Rattle.pgp_whole.specs.kept.Hearing.{is_same_source}
use Rattle.pgp_whole.proofs.SummaryGroups.{heard-by, is-present}
use Rattle.pgp_whole.proofs.group_sums.has_heard.Goals as goal

pub returns-in-Some : goal.returns-in-Some
returns-in-Some c = λ log g viewed are.
    c.is_counted.ensures g (is-present log c.args.map.now c.args.pg.now c.args.view.now g viewed)
    ∙ ap (λ found. option_map_or (is_counted g c.args.member.now) found false) (c.in-Some.ensures.value ∙ ap (hash.get is_same_source c.args.stamps.now) c.new.ensures)
    ∙ heard-by log c.args.map.now c.args.pg.now c.args.view.now g viewed c.args.member.now c.args.stamps.now are

pub returns-in-None : goal.returns-in-None
returns-in-None c = λ log g viewed are.
    ap (λ found. option_map_or (is_counted g c.args.member.now) found false) (c.in-None.ensures.value ∙ ap (hash.get is_same_source c.args.stamps.now) c.new.ensures)
    ∙ heard-by log c.args.map.now c.args.pg.now c.args.view.now g viewed c.args.member.now c.args.stamps.now are
