use Rattle.std.proofs.Common.{◌∙◌, sym, inl, inr}
use Rattle.std.proofs.lemmas.Result.{on_ok_weaker, IfErr-weaker}
use Rattle.pgp_map.proofs.CheckLemmas.{gap-found, twice-found, fault-found, found-otherwise}
use Rattle.pgp_map.proofs.map.OsdMap.check.Goals as goal

pub returns-then-has_epoch_gap-clause-fault : goal.returns-then-has_epoch_gap-clause-fault
returns-then-has_epoch_gap-clause-fault c =
    inr (λ incs is. gap-found incs c.args.inc.now (sym (c.has_epoch_gap.ensures incs is) ∙ c.if-has_epoch_gap.true))

pub returns-in_err-has_twice-clause-wants : goal.returns-in_err-has_twice-clause-wants
returns-in_err-has_twice-clause-wants c = λ memory. λ incs is. record {
  is_next = sym (c.has_epoch_gap.ensures incs is) ∙ c.if-has_epoch_gap.false;
  cause = inl c.in_err-has_twice.ensures.wants;
}

pub returns-then-branch-clause-fault : goal.returns-then-branch-clause-fault
returns-then-branch-clause-fault c =
    inr (λ incs is. twice-found incs c.args.inc.now (sym (c.has_epoch_gap.ensures incs is) ∙ c.if-has_epoch_gap.false) (sym c.in_ok-has_twice.ensures.value ∙ c.if-branch.true))

pub returns-in-Some-clause-fault : goal.returns-in-Some-clause-fault
returns-in-Some-clause-fault c =
    inr (λ incs is. fault-found incs c.args.inc.now c.findings.result _ (sym (c.has_epoch_gap.ensures incs is) ∙ c.if-has_epoch_gap.false)
    (sym c.in_ok-has_twice.ensures.value ∙ c.if-branch.false) (c.findings.ensures incs is) (sym c.first.ensures ∙ c.in-Some.is))

pub returns-in-Some-clause-wants : goal.returns-in-Some-clause-wants
returns-in-Some-clause-wants c = λ memory. absurd (found-otherwise c.findings.result cc)

pub returns-in-None-clause-ok : goal.returns-in-None-clause-ok
returns-in-None-clause-ok c =
    on_ok_weaker c.check_tree.result
    (λ fine. λ incs is. fault-found incs c.args.inc.now c.findings.result _ (sym (c.has_epoch_gap.ensures incs is) ∙ c.if-has_epoch_gap.false)
    (sym c.in_ok-has_twice.ensures.value ∙ c.if-branch.false) (c.findings.ensures incs is) (sym c.first.ensures ∙ c.in-None.is) ∙ fine)
    c.check_tree.ensures.ok

pub returns-in-None-clause-fault : goal.returns-in-None-clause-fault
returns-in-None-clause-fault c =
    IfErr-weaker c.check_tree.result _ _ (λ fault found. elim found [
      | inl memory ↦ inl memory
      | inr given ↦ inr (λ incs is. fault-found incs c.args.inc.now c.findings.result _ (sym (c.has_epoch_gap.ensures incs is) ∙ c.if-has_epoch_gap.false)
          (sym c.in_ok-has_twice.ensures.value ∙ c.if-branch.false) (c.findings.ensures incs is) (sym c.first.ensures ∙ c.in-None.is) ∙ given)
    ]) c.check_tree.ensures.fault

pub returns-in-None-clause-wants : goal.returns-in-None-clause-wants
returns-in-None-clause-wants c = λ memory. λ incs is.
    let next = sym (c.has_epoch_gap.ensures incs is) ∙ c.if-has_epoch_gap.false in
    record {
      is_next = next;
      cause = inr (
        c.check_tree.ensures.wants memory,
        fault-found incs c.args.inc.now c.findings.result _ next (sym c.in_ok-has_twice.ensures.value ∙ c.if-branch.false) (c.findings.ensures incs is) (sym c.first.ensures ∙ c.in-None.is),
      );
    }
