use Rattle.std.proofs.Common.{◌≢◌, rules}
use Rattle.std.proofs.lemmas.Result.{on_ok_weaker, IfErr-weaker}
use Rattle.pgp_ids.specs.declared.text_fault.TextFault.TheVariants.{Memory}
use Rattle.pgp_core.proofs.LineLemmas.{lacks-of}
use Rattle.pgp_core.proofs.ReplyLemmas.{puts-command, puts-fault}
use Rattle.pgp_core.proofs.answer.answer_line.Goals as goal

pub returns-in-Ok-clause-ok : goal.returns-in-Ok-clause-ok
returns-in-Ok-clause-ok g c =
    on_ok_weaker _ (puts-command _ _ _ _ c.args.line.now c.in-Ok.command _ _ (search rules)) c.answer_command.ensures.ok

pub returns-in-Ok-clause-lacks : goal.returns-in-Ok-clause-lacks
returns-in-Ok-clause-lacks g c =
    IfErr-weaker c.answer_command.result _ _ (lacks-of g.A.Answerer.alone c.args.codec.now.reader.format c.args.line.now c.in-Ok.command (search rules)) c.answer_command.ensures.lacks

pub returns-in_ok-put_reply-in-Err-clause-ok : goal.returns-in_ok-put_reply-in-Err-clause-ok
returns-in_ok-put_reply-in-Err-clause-ok g c =
    let other : c.in-Err.fault ≢ Memory = search rules in
    puts-fault g.A.Answerer.alone _ _ c.args.line.now c.in-Err.fault _ _ c.in-Err.ensures.err other c.in_ok-put_reply-in-Err.ensures.ok
