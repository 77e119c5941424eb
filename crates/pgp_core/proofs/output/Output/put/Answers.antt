use Rattle.std.proofs.lemmas.Result.{on_err_weaker, on_ok_weaker}
use Rattle.pgp_core.proofs.OutputLemmas.{WrittenPart-direct, FrontWent-longer, FrontWent-after}
use Rattle.pgp_lists.proofs.Results.{on_err}
use Rattle.pgp_core.proofs.output.Output.put.Goals as goal

pub returns-in_err-flush-in-Err-clause-err : goal.returns-in_err-flush-in-Err-clause-err
returns-in_err-flush-in-Err-clause-err g c =
    on_err _ _ (FrontWent-longer _ _ _ _ (rw c.in-Err.ensures.items at c.in_err-flush-in-Err.ensures.err))

pub returns-in_ok-flush-in-Err-clause-err : goal.returns-in_ok-flush-in-Err-clause-err
returns-in_ok-flush-in-Err-clause-err g c =
    on_err_weaker _ (λ front. FrontWent-after _ _ _ _ _ (rw c.in-Err.ensures.items at c.in_ok-flush-in-Err.ensures.ok) front) c.write_out.ensures.err

pub returns-in_ok-flush-in-Err-clause-ok : goal.returns-in_ok-flush-in-Err-clause-ok
returns-in_ok-flush-in-Err-clause-ok g c =
    on_ok_weaker _ (WrittenPart-direct _ _ _ _ _ _ c.in_ok-flush-in-Err.ensures.empty (rw c.in-Err.ensures.items at c.in_ok-flush-in-Err.ensures.ok))
    c.write_out.ensures.ok
