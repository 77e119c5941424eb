use Rattle.std.proofs.Common.{map, take}
use Rattle.std.specs.Arc.{arc_value}
use Rattle.pgp_log.specs.Judge.{IsJudgeOf}
use Rattle.pgp_join.proofs.joined.are_legal.Given as goal

abbrev pub invariant-loop-entry : goal.invariant-loop-entry
invariant-loop-entry l = IsJudgeOf (map arc_value (take l.entry-index l.entries)) l.judge
