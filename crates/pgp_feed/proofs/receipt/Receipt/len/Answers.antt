use Rattle.std.proofs.Common.{arith}
use Rattle.pgp_log.proofs.LogLemmas.{legal-short, legal-take}
use Rattle.pgp_feed.proofs.receipt.Receipt.len.Goals as goal

pub returns-clause-legal : goal.returns-clause-legal
returns-clause-legal c = let r = c.args.self.now in legal-take r.len r.seen.log r.legal

pub returns-clause-few : goal.returns-clause-few
returns-clause-few c = let r = c.args.self.now in omega (arith, legal-short r.seen.log r.legal, r.within)
