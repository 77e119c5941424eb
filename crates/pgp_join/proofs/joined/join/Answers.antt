use Rattle.std.proofs.Common.{map, sym, subst}
use Rattle.std.specs.Arc.{arc_value}
use Rattle.std.proofs.lemmas.Result.{IfOk-weaker}
use Rattle.pgp_join.specs.Bound.{IsJoinedLog}
use Rattle.pgp_join.proofs.AnswerLemmas.{joined-itself}
use Rattle.pgp_join.proofs.joined.join.Goals as goal

pub returns : goal.returns
returns c =
    let log = map arc_value c.args.entries.now in
    IfOk-weaker c.shared.result _ _ (λ copies same. subst (IsJoinedLog log) (sym same) (joined-itself log c.requires)) c.shared.ensures
