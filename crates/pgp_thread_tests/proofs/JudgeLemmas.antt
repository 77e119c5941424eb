-- The judge of a log without an entry.
use Rattle.std.proofs.Common.{◌≡◌, List, [], sym, subst}
use Rattle.pgp_ids.specs.declared.entry.Entry.{Entry}
use Rattle.pgp_log.specs.declared.judge.Judge.{Judge}
use Rattle.pgp_log.specs.Judge.{IsJudgeOf}

pub judge_at_start : (log : List Entry) (judge : Judge) → log ≡ [] → IsJudgeOf [] judge → IsJudgeOf log judge
judge_at_start log judge empty is = subst (λ (l : List Entry). IsJudgeOf l judge) (sym empty) is
