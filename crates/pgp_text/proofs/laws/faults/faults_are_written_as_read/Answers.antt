use Rattle.pgp_text.proofs.FaultLemmas.{written_as_read}
use Rattle.pgp_text.proofs.laws.faults.faults_are_written_as_read.Goals as goal

pub returns : goal.returns
returns c = written_as_read
