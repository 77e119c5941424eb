use Rattle.pgp_log.proofs.Common.{◌≡◌, map, take, arc_value}
use Rattle.pgp_log.proofs.judged_log.JudgedLog.over.Given as goal

abbrev pub invariant-loop-entry : goal.invariant-loop-entry
invariant-loop-entry l = l.log ≡ map arc_value (take l.entry-index l.entries)
