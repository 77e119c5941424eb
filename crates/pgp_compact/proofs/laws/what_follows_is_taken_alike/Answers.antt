use Rattle.pgp_compact.proofs.Common.{arith, compacted, ◌++◌, ◌∙◌}
use Rattle.pgp_compact.proofs.LegalLemmas.{fault-same, fits-less, fits-short, gone_on-legal, gone_on-shorter}
use Rattle.pgp_compact.proofs.PartLemmas.{incs-gone_on}
use Rattle.pgp_compact.proofs.laws.what_follows_is_taken_alike.Goals as goal

pub returns : goal.returns
returns c = record {
  legal = gone_on-legal;
  closed = λ log more. (gone_on-shorter log more).closed;
  fault = λ log more new. fault-same (log ++ more) (compacted log ++ more) new (incs-gone_on log more);
  room = λ log more new open' fine short.
      let same = fault-same (log ++ more) (compacted log ++ more) new (incs-gone_on log more) in
      fits-short (compacted log ++ more) new ((gone_on-shorter log more).closed ∙ open') (same ∙ fine) short;
  next = grind (arith, fits-less, gone_on-shorter);
  incs = incs-gone_on;
  shorter = grind (arith, gone_on-shorter);
}
