use Rattle.pgp_compact.proofs.whole.Whole.needs.Goals as goal

pub returns-in-Info : goal.returns-in-Info
returns-in-Info c = rw c.in-Info.is c.needs_info.ensures

pub returns-in-Entries : goal.returns-in-Entries
returns-in-Entries c = rw c.in-Entries.is c.needs_report.ensures
