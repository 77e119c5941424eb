use Rattle.std.proofs.Common.{refl, Result, IfSome, IsErrAnd, ◌≡◌, Err}
use Rattle.std.proofs.lemmas.Option.{IfSome_then}
use Rattle.std.proofs.lemmas.Result.{err_from_is_err_and}
use Rattle.pgp_ids.specs.declared.text_fault.TextFault.{TextFault}
use Rattle.pgp_lines.specs.LineFault.{LineFault, IsRead, line_fault_of}
use Rattle.pgp_lines.proofs.command.reports.read_info.Goals as goal

-- a reader passes on the fault of a step
passed_on : {A : Type 0} (r : Result A TextFault) (fault : TextFault) (said : Result A LineFault) → IsErrAnd r (λ e. e ≡ fault)
    → IfSome (line_fault_of fault) (λ f. said ≡ Err f) → IsRead r said
passed_on r fault said err is = let found = err_from_is_err_and r err in rw (found.1, found.2) (tt, is)

pub returns-in_err-complete : goal.returns-in_err-complete
returns-in_err-complete c =
    passed_on _ _ _ c.from_residual.ensures.1 (IfSome_then (line_fault_of c.in_err-complete.field-0.0) c.in_err-complete.ensures.1 (λ f is. rw is refl))

pub returns-in_err-member : goal.returns-in_err-member
returns-in_err-member c =
    passed_on _ _ _ c.from_residual-in_err-member.ensures.1 (IfSome_then (line_fault_of c.in_err-member.field-0.0) c.in_err-member.ensures.1 (λ f is. rw (c.in_ok-complete.ensures.0, is) refl))

pub returns-in_err-history_les : goal.returns-in_err-history_les
returns-in_err-history_les c =
    passed_on _ _ _ c.from_residual-in_err-history_les.ensures.1 (IfSome_then (line_fault_of c.in_err-history_les.field-0.0) c.in_err-history_les.ensures.1 (λ f is. rw (c.in_ok-complete.ensures.0, c.in_ok-member.ensures.0, is) refl))

pub returns-in_err-last_epoch_clean : goal.returns-in_err-last_epoch_clean
returns-in_err-last_epoch_clean c =
    passed_on _ _ _ c.from_residual-in_err-last_epoch_clean.ensures.1 (IfSome_then (line_fault_of c.in_err-last_epoch_clean.field-0.0) c.in_err-last_epoch_clean.ensures.1 (λ f is. rw (c.in_ok-complete.ensures.0, c.in_ok-member.ensures.0, c.in_ok-history_les.ensures.0, rw c.new.ensures at is) refl))

pub returns-in_err-last_update : goal.returns-in_err-last_update
returns-in_err-last_update c =
    passed_on _ _ _ c.from_residual-in_err-last_update.ensures.1 (IfSome_then (line_fault_of c.in_err-last_update.field-0.0) c.in_err-last_update.ensures.1 (λ f is. rw (c.in_ok-complete.ensures.0, c.in_ok-member.ensures.0, c.in_ok-history_les.ensures.0, (rw c.new.ensures at c.in_ok-last_epoch_clean.ensures.0), is) refl))

pub returns-in_err-les : goal.returns-in_err-les
returns-in_err-les c =
    passed_on _ _ _ c.from_residual-in_err-les.ensures.1 (IfSome_then (line_fault_of c.in_err-les.field-0.0) c.in_err-les.ensures.1 (λ f is. rw (c.in_ok-complete.ensures.0, c.in_ok-member.ensures.0, c.in_ok-history_les.ensures.0, (rw c.new.ensures at c.in_ok-last_epoch_clean.ensures.0), c.in_ok-last_update.ensures.0, is) refl))

pub returns-in_err-log_tail : goal.returns-in_err-log_tail
returns-in_err-log_tail c =
    passed_on _ _ _ c.from_residual-in_err-log_tail.ensures.1 (IfSome_then (line_fault_of c.in_err-log_tail.field-0.0) c.in_err-log_tail.ensures.1 (λ f is. rw (c.in_ok-complete.ensures.0, c.in_ok-member.ensures.0, c.in_ok-history_les.ensures.0, (rw c.new.ensures at c.in_ok-last_epoch_clean.ensures.0), c.in_ok-last_update.ensures.0, c.in_ok-les.ensures.0, is) refl))

pub returns-in_err-pg : goal.returns-in_err-pg
returns-in_err-pg c =
    passed_on _ _ _ c.from_residual-in_err-pg.ensures.1 (IfSome_then (line_fault_of c.in_err-pg.field-0.0) c.in_err-pg.ensures.1 (λ f is. rw (c.in_ok-complete.ensures.0, c.in_ok-member.ensures.0, c.in_ok-history_les.ensures.0, (rw c.new.ensures at c.in_ok-last_epoch_clean.ensures.0), c.in_ok-last_update.ensures.0, c.in_ok-les.ensures.0, c.in_ok-log_tail.ensures.0, is) refl))

pub returns-in_err-stamp : goal.returns-in_err-stamp
returns-in_err-stamp c =
    passed_on _ _ _ c.from_residual-in_err-stamp.ensures.1 (IfSome_then (line_fault_of c.in_err-stamp.field-0.0) c.in_err-stamp.ensures.1 (λ f is. rw (c.in_ok-complete.ensures.0, c.in_ok-member.ensures.0, c.in_ok-history_les.ensures.0, (rw c.new.ensures at c.in_ok-last_epoch_clean.ensures.0), c.in_ok-last_update.ensures.0, c.in_ok-les.ensures.0, c.in_ok-log_tail.ensures.0, c.in_ok-pg.ensures.0, is) refl))

pub returns-in_err-judge_format : goal.returns-in_err-judge_format
returns-in_err-judge_format c =
    passed_on _ _ _ c.from_residual-in_err-judge_format.ensures.1 (IfSome_then (line_fault_of c.in_err-judge_format.field-0.0) c.in_err-judge_format.ensures.1 (λ f is. rw (c.in_ok-complete.ensures.0, c.in_ok-member.ensures.0, c.in_ok-history_les.ensures.0, (rw c.new.ensures at c.in_ok-last_epoch_clean.ensures.0), c.in_ok-last_update.ensures.0, c.in_ok-les.ensures.0, c.in_ok-log_tail.ensures.0, c.in_ok-pg.ensures.0, c.in_ok-stamp.ensures.0, is) refl))

pub returns : goal.returns
returns c = (rw (c.in_ok-complete.ensures.0, c.in_ok-member.ensures.0, c.in_ok-history_les.ensures.0, (rw c.new.ensures at c.in_ok-last_epoch_clean.ensures.0), c.in_ok-last_update.ensures.0, c.in_ok-les.ensures.0, c.in_ok-log_tail.ensures.0, c.in_ok-pg.ensures.0, c.in_ok-stamp.ensures.0, c.in_ok-judge_format.ensures.0) refl, tt)
