use Rattle.std.proofs.Common.{arith}
use Rattle.pgp_missing.proofs.EntryLemmas.{put_numbered}
use Rattle.pgp_missing.proofs.entries.Entries.put.Goals as goal

pub returns-clause-ok : goal.returns-clause-ok
returns-clause-ok c = grind (arith, put_numbered)
