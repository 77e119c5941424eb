use Rattle.pgp_compact.proofs.Common.{arith, group_in, map_some, standing_at, sym, ◌∙◌}
use Rattle.pgp_compact.proofs.WholeLemmas.{present, reports-entries}
use Rattle.pgp_compact.proofs.whole.Whole.needs_report.Goals as goal

pub returns-in_ok-note_report-in-Some : goal.returns-in_ok-note_report-in-Some
returns-in_ok-note_report-in-Some c = λ log done is kept there.
    let report = c.args.report.now in
    let says = c.standing.ensures log is (reports-entries log report there) (omega (arith, c.new.ensures)) in
    let m = map_some (standing_at c.new.result) (group_in log report.pg) c.in-Some.standing (sym says ∙ c.in-Some.is) in
    let here = present log report.pg m.0 c.args.self.now.map c.new.result c.in-Some.standing m.1 is.read.map_is (sym m.2) in
    (grind (arith, c.needs_report-needed.ensures log done m.0 kept here, m.1), c.in_ok-note_report-in-Some.ensures log done kept)

pub returns-in_ok-note_report-in-None : goal.returns-in_ok-note_report-in-None
returns-in_ok-note_report-in-None c = λ log done is kept there.
    (grind (arith, c.standing.ensures log is (reports-entries log c.args.report.now there)), c.in_ok-note_report-in-None.ensures log done kept)
