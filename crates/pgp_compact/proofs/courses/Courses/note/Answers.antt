use Rattle.pgp_compact.proofs.Common.{arith, on_ok}
use Rattle.pgp_compact.proofs.CoursesLemmas.{noted-nothing, report-of-entries, report-of-info}
use Rattle.pgp_compact.proofs.courses.Courses.note.Goals as goal

pub returns-in-Info : goal.returns-in-Info
returns-in-Info c = grind (arith, report-of-info, on_ok)

pub returns-in-Entries : goal.returns-in-Entries
returns-in-Entries c = grind (arith, report-of-entries, on_ok)

pub returns-in-Inc : goal.returns-in-Inc
returns-in-Inc c = grind (arith, noted-nothing)

pub returns-in-Inc-2 : goal.returns-in-Inc-2
returns-in-Inc-2 c = grind (arith, noted-nothing)
