use Rattle.pgp_engine.proofs.WorkLemmas.{end_of}
use Rattle.pgp_engine.proofs.engine.work.end_in.Goals as goal

pub returns-then-closed : goal.returns-then-closed
returns-then-closed g c = end_of g.J.Naming.feed c.args.front c.args.closed c.requires.feed c.requires.closed c.if-closed.true
