use Rattle.std.proofs.Common.{rules}
use Rattle.pgp_shard.proofs.Common.{◌≡◌, false, sym, ◌∙◌, list_any, incs_of, may_lie_on, turned_devices}
use Rattle.pgp_log.proofs.TouchLemmas.{lies-touches}
use Rattle.pgp_shard.proofs.RowLemmas.{any-lies-there}
use Rattle.pgp_shard.proofs.kept_group.KeptGroup.may_move.Goals as goal

pub returns-else-changes_temp-clause-stays : goal.returns-else-changes_temp-clause-stays
returns-else-changes_temp-clause-stays c = λ stays log is step.
    let kept = c.args.self.now in
    let inc = c.args.inc.now in
    let unturned : list_any (may_lie_on (incs_of log) kept.pg) (turned_devices inc) ≡ false = any-lies-there log kept (turned_devices inc) is ∙ sym c.turns_place.ensures ∙ stays in
    search (rules, unturned)

pub returns-else-changes_temp-clause-touches : goal.returns-else-changes_temp-clause-touches
returns-else-changes_temp-clause-touches c = λ lies log is step.
    let kept = c.args.self.now in
    let inc = c.args.inc.now in
    lies-touches log inc kept.pg (any-lies-there log kept (turned_devices inc) is ∙ sym c.turns_place.ensures ∙ lies)
