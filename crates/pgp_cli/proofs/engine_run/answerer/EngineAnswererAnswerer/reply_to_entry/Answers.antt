use Rattle.pgp_cli.proofs.ReplyLemmas.{submitted}
use Rattle.pgp_cli.proofs.engine_run.answerer.EngineAnswererAnswerer.reply_to_entry.Goals as goal

pub returns-in-Ok-clause-reply : goal.returns-in-Ok-clause-reply
returns-in-Ok-clause-reply g c =
    rw (← c.self.view_is, c.of-op.ensures)
    (submitted c.self.inside.at c.in-Ok.field-0.at c.args.entry c.len-count.result c.in-Ok.field-0.epoch c.in-Ok.ensures.submitted c.len-count.ensures.length c.in-Ok.ensures.epoch)
