use Rattle.pgp_feed.specs.Receipts.{entries_of}
use Rattle.pgp_feed.proofs.Fronts.{front_trans}
use Rattle.pgp_cli.proofs.ReplyLemmas.{lies-nowhere, located}
use Rattle.pgp_cli.proofs.engine_run.answerer.EngineAnswererAnswerer.reply_to_locate.Goals as goal

pub returns-in-Ok-clause-reply : goal.returns-in-Ok-clause-reply
returns-in-Ok-clause-reply g c =
    let same = c.in-Ok.ensures.placed.0 in
    rw (← c.self.view_is)
    (located c.self.inside.at c.in-Ok.field-0.at c.args.pool c.args.name.now c.in-Ok.field-0.pg c.in-Ok.field-0.members c.in-Ok.field-0.epoch
    (rw same (front_trans (entries_of c.self.inside.at) (entries_of c.learn.new.self.front) (entries_of c.locate.new.self.front) c.learn.ensures.learnt.front c.in-Ok.ensures.later.front))
    (rw same c.in-Ok.ensures.placed.1) (rw same c.in-Ok.ensures.epoch))

pub returns-in-Err-UnknownPool-clause-reply : goal.returns-in-Err-UnknownPool-clause-reply
returns-in-Err-UnknownPool-clause-reply g c =
    let none = c.in-Err-UnknownPool.ensures.unknown c.in-Err-UnknownPool.at cc in
    rw (← c.self.view_is)
    (lies-nowhere c.self.inside.at c.in-Err-UnknownPool.at c.args.pool c.args.name.now
    (rw none.0 (front_trans (entries_of c.self.inside.at) (entries_of c.learn.new.self.front) (entries_of c.locate.new.self.front) c.learn.ensures.learnt.front c.in-Err-UnknownPool.ensures.later.front))
    (rw none.0 none.1))
