use Rattle.pgp_shard.proofs.WorldLemmas.{run-answers, run-done, run-legal, run-log}
use Rattle.pgp_shard.proofs.laws.runs_of_a_world.Goals as goal

pub returns : goal.returns
returns c = record { answers = run-answers; done = run-done; log = run-log; legal = run-legal }
