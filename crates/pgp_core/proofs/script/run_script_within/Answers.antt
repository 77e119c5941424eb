use Rattle.std.proofs.lemmas.Result.{IfErr-at_err}
use Rattle.pgp_core.proofs.TurnLemmas.{never_gone}
use Rattle.pgp_core.proofs.script.run_script_within.Goals as goal

pub returns-clause-never_gone : goal.returns-clause-never_gone
returns-clause-never_gone g c gone = never_gone _ _ _ _ _ (IfErr-at_err _ gone c.answer_script.ensures.err)
