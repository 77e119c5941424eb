use Rattle.pgp_core.proofs.session.Session.read.Goals as goal

pub returns-clause-outcome : goal.returns-clause-outcome
returns-clause-outcome c = rw (← c.self.view_is) c.read_line.ensures.outcome
