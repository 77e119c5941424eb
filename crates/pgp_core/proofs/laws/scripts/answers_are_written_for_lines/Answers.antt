use Rattle.pgp_core.proofs.WrittenLemmas.{answers-written, written-answers}
use Rattle.pgp_core.proofs.laws.scripts.answers_are_written_for_lines.Goals as goal

pub returns-clause-written : goal.returns-clause-written
returns-clause-written c = answers-written

pub returns-clause-answers : goal.returns-clause-answers
returns-clause-answers c format before after lines out all = rw (all.log, all.text) (written-answers format before all.met lines all.each all.may)
