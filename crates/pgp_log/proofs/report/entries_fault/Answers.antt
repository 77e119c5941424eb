use Rattle.pgp_log.proofs.Common.{refl, ◌∙◌}
use Rattle.pgp_log.proofs.report.entries_fault.Goals as goal

pub returns-clause-fault : goal.returns-clause-fault
returns-clause-fault c incs is = c.report_fault.ensures.fault incs is ∙ rw (c.has_bad_entries-bad.ensures, c.as_slice.ensures) refl
