use Rattle.pgp_log.proofs.Common.{◌≡◌, Err, ap, sym, inc_of, refusal_of}
use Rattle.pgp_ids.specs.declared.refusal.Refusal.TheVariants.{Memory}
use Rattle.pgp_log.proofs.JudgeLemmas.{lacked}
use Rattle.pgp_log.proofs.judge.Judge.fits.Goals as goal

pub returns-in_err-check-in-Inc-clause-lacks : goal.returns-in_err-check-in-Inc-clause-lacks
returns-in_err-check-in-Inc-clause-lacks c same log is =
    let memory : refusal_of c.in_err-check-in-Inc.field-0.0 ≡ Memory = sym (rw same at c.from_residual.ensures.1) in
    record {
      inc = c.in-Inc.inc;
      is_inc = ap inc_of c.in-Inc.is;
      lacks = lacked log c.in-Inc.inc c.args.self.now.map c.in_err-check-in-Inc.field-0.0 is.map_is c.in_err-check-in-Inc.ensures.fault
          (λ m. c.in_err-check-in-Inc.ensures.wants (ap Err m)) memory;
    }
