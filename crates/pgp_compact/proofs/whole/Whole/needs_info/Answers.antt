use Rattle.pgp_compact.proofs.Common.{arith, group_in, map_some, standing_at, sym, ◌∙◌}
use Rattle.pgp_compact.proofs.WholeLemmas.{present, reached-clean, reports-info}
use Rattle.pgp_compact.proofs.whole.Whole.needs_info.Goals as goal

pub returns-in_ok-note_info-in-Some : goal.returns-in_ok-note_info-in-Some
returns-in_ok-note_info-in-Some c = λ log done is kept there.
    let info = c.args.info.now in
    let says = c.standing.ensures log is (reports-info log info there) (reached-clean log info is.legal there) in
    let m = map_some (standing_at info.last_epoch_clean) (group_in log info.pg) c.in-Some.standing (sym says ∙ c.in-Some.is) in
    let here = present log info.pg m.0 c.args.self.now.map info.last_epoch_clean c.in-Some.standing m.1 is.read.map_is (sym m.2) in
    (grind (arith, c.needs_info-needed.ensures log done m.0 kept m.1 here (sym m.2), m.1), grind (arith, says, c.in_ok-note_info-in-Some.ensures log done kept))

pub returns-in_ok-note_info-in-None : goal.returns-in_ok-note_info-in-None
returns-in_ok-note_info-in-None c = λ log done is kept there.
    let says = c.standing.ensures log is (reports-info log c.args.info.now there) (reached-clean log c.args.info.now is.legal there) in
    (grind (arith, says), grind (arith, says, c.in_ok-note_info-in-None.ensures log done kept))
