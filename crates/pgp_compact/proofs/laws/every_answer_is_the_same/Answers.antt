use Rattle.pgp_compact.proofs.Common.{[], append-nil, are_checked, arith, incs_of, true, ◌++◌, ◌≡◌}
use Rattle.pgp_compact.proofs.GoneOnLemmas.{same-answer}
use Rattle.pgp_compact.proofs.LegalLemmas.{legal-sent}
use Rattle.pgp_compact.proofs.PartLemmas.{incs-gone_on}
use Rattle.pgp_compact.proofs.laws.every_answer_is_the_same.Goals as goal

pub returns-clause-now : goal.returns-clause-now
returns-clause-now c = λ log pg legal.
    let checked : are_checked (incs_of (log ++ [])) ≡ true = simp append-nil (c.legal_logs_are_checked_and_short.ensures.checked log legal) in
    simp append-nil at (same-answer c.what_does_not_count_never_counts_again.ensures log [] pg checked (legal-sent log legal))

pub returns-clause-after : goal.returns-clause-after
returns-clause-after c = λ log more pg legal checked. same-answer c.what_does_not_count_never_counts_again.ensures log more pg checked (legal-sent log legal)

pub returns-clause-taken : goal.returns-clause-taken
returns-clause-taken c = grind (arith, same-answer, incs-gone_on, legal-sent)
