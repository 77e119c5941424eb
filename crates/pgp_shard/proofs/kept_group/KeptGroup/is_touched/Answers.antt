use Rattle.pgp_shard.proofs.Common.{◌||◌, ap, sym, ◌∙◌, list_any, changed_devices, has_to_do_with}
use Rattle.pgp_log.proofs.TouchLemmas.{changed-parts}
use Rattle.pgp_shard.proofs.kept_group.KeptGroup.is_touched.Goals as goal

pub returns-then-changes_placement : goal.returns-then-changes_placement
returns-then-changes_placement c = λ log is.
    c.if-changes_placement.true
    ∙ ap (λ b. b || list_any (has_to_do_with log c.args.self.now.pg) (changed_devices c.args.inc.now)) (sym c.if-changes_placement.true ∙ c.changes_placement.ensures)

pub returns-else-changes_placement : goal.returns-else-changes_placement
returns-else-changes_placement c = λ log is.
    c.knows_changed.ensures log is
    ∙ changed-parts (has_to_do_with log c.args.self.now.pg) c.args.inc.now
    ∙ ap (λ b. b || list_any (has_to_do_with log c.args.self.now.pg) (changed_devices c.args.inc.now)) (sym c.if-changes_placement.false ∙ c.changes_placement.ensures)
