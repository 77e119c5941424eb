use Rattle.pgp_compact.proofs.Common.{AreLastCleans, Contains, Entry, group_in, on_ok, subst, sym, ◌∙◌, ◌∷◌}
use Rattle.pgp_compact.proofs.WholeLemmas.{no-clean, reached-clean, reports-info, stands-opening}
use Rattle.pgp_compact.proofs.whole.Whole.note_clean.Goals as goal

pub returns-in_default-standing : goal.returns-in_default-standing
returns-in_default-standing c = λ log later is there kept.
    let info = c.in-Info.info in
    let told = subst (Contains log) c.in-Info.is there in
    let says = c.standing.ensures log is (reports-info log info told) (reached-clean log info is.legal told) in
    subst (λ (e : Entry). AreLastCleans log (e ∷ later) c.args.cleans.now.table) (sym c.in-Info.is) (no-clean log later info c.args.cleans.now.table (sym c.in_default-standing.is ∙ says) kept)

pub returns : goal.returns
returns c = on_ok c.note_clean.result _ _ (λ noted log later is there kept.
    let info = c.in-Info.info in
    let told = subst (Contains log) c.in-Info.is there in
    let says = c.standing.ensures log is (reports-info log info told) (reached-clean log info is.legal told) in
    let opens = stands-opening info.last_epoch_clean (group_in log info.pg) c.in-Some.standing (sym c.in-Some.is ∙ says) in
    subst (λ (e : Entry). AreLastCleans log (e ∷ later) c.note_clean.new.cleans.table) (sym c.in-Info.is) (noted log later kept opens)) c.note_clean.ensures
