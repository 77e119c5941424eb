use Rattle.std.proofs.Common.{append_assoc}
use Rattle.pgp_group_words.proofs.lags.RefPeerMissingInWords.put.Goals as goal

pub returns-in-Diverged : goal.returns-in-Diverged
returns-in-Diverged c = rw c.in-Diverged.is (rw append_assoc at (rw c.in_ok-put.ensures at c.push_str-in-Diverged.ensures))
