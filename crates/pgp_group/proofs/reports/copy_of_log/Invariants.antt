use Rattle.pgp_group.proofs.Common.{◌≡◌, take}
use Rattle.pgp_group.proofs.reports.copy_of_log.Given as goal

abbrev pub invariant-loop-entry : goal.invariant-loop-entry
invariant-loop-entry l = l.copy.items ≡ take l.entry-index l.log
