use Rattle.pgp_compact.proofs.Common.{PgId, ap, group_in, incs_of, option_map, standing_at, started_by, sym, ◌∙◌}
use Rattle.pgp_compact.proofs.whole.Whole.standing.Goals as goal

pub returns : goal.returns
returns c = λ log is reported known.
    let found = c.in_ok-course.ensures.some (incs_of log) log is.read.courses_are in
    c.standing.ensures log is.legal found.is (found.les_is ∙ ap (started_by log) (sym found.pg_is)) known
    ∙ ap (λ (pg : PgId). option_map (standing_at c.args.clean) (group_in log pg)) found.pg_is
