use Rattle.std.proofs.Common.{◌≡◌, Result, Ok, Err, OnOk, sym, ◌∙◌}
use Rattle.std.specs.Result.{result_or}
use Rattle.pgp_lines.specs.declared.command.Command.TheVariants.{Submit}
use Rattle.pgp_core.proofs.ReplyLemmas.{stays-unless-put}
use Rattle.pgp_core.proofs.answer.answer_entry.Goals as goal

-- where a call has not failed, no other fault came in place of its own
succeeded : {T E F : Type 0} (r : Result T E) (fault : F) (done : T) (P : Type 0) → result_or r (Err fault) ≡ Ok done → OnOk r P → P
succeeded (Ok x) fault done P is holds = holds
succeeded (Err e) fault done P is holds = absurd cc

pub returns-clause-log : goal.returns-clause-log
returns-clause-log g c =
    let room = succeeded c.reserve.result _ _ _ (sym c.or.ensures ∙ c.in_ok-or.was) c.reserve.ensures.ok in
    rw c.or-2.ensures (stays-unless-put g.A.Answerer.alone _ _ (Submit c.args.entry) c.in_ok-reply.reply c.put_reply.result _ c.in_ok-reply.ensures.reply
    (λ took. c.put_reply.ensures.sure took room))
