use Rattle.std.proofs.Common.{[]}
use Rattle.pgp_core.proofs.ScriptLemmas.{answers-push, logs-push}
use Rattle.pgp_core.proofs.laws.scripts.answers_depend_on_the_lines_before.Goals as goal

pub returns-clause-text : goal.returns-clause-text
returns-clause-text c = λ format. answers-push format []

pub returns-clause-log : goal.returns-clause-log
returns-clause-log c = λ format. logs-push format []
