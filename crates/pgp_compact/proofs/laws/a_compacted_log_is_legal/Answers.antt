use Rattle.pgp_compact.proofs.Common.{is_needed}
use Rattle.pgp_compact.proofs.LegalLemmas.{compacted-legal, compacted-shorter}
use Rattle.pgp_compact.proofs.NeededLemmas.{needed-length}
use Rattle.pgp_compact.proofs.PartLemmas.{incs-same}
use Rattle.pgp_compact.proofs.laws.a_compacted_log_is_legal.Goals as goal

pub returns : goal.returns
returns c = record {
  legal = λ log legal. (compacted-legal log legal).0;
  shorter = λ log. needed-length (is_needed log) log;
  incs = incs-same;
  closed = λ log. (compacted-shorter log).closed;
}
