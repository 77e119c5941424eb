use Rattle.pgp_log.proofs.LogLemmas.{taken_in_front}
use Rattle.pgp_log.proofs.laws.later_entries_play_no_part.Goals as goal

pub returns : goal.returns
returns c = taken_in_front
