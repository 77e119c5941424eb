use Rattle.std.proofs.Common.{refl}
use Rattle.pgp_lines.specs.declared.command.Command.TheVariants.{Trace}
use Rattle.pgp_core.proofs.ReplyLemmas.{puts-reply}
use Rattle.pgp_core.proofs.WrittenLemmas.{by-itself}
use Rattle.pgp_core.proofs.answer.answer_command.Goals as goal

-- a trace is answered by the log that there is
pub returns-in_ok-put_reply-in-Trace-clause-ok : goal.returns-in_ok-put_reply-in-Trace-clause-ok
returns-in_ok-put_reply-in-Trace-clause-ok g c =
    let log = g.A.Answerer.log c.args.answerer.now in
    rw c.in-Trace.is
    (puts-reply g.A.Answerer.alone log log (Trace c.in-Trace.code c.in-Trace.epochs) c.in_ok-reply-in-Trace.reply c.args.text.now.items _
    (record { by = log; may = by-itself g.A.Answerer.alone log; is = c.in_ok-reply-in-Trace.ensures; log = refl }) c.in_ok-put_reply-in-Trace.ensures.ok)
