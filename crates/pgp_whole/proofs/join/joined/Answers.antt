use Rattle.pgp_whole.proofs.JoinLemmas.{counts-itself, stands-itself}
use Rattle.pgp_whole.proofs.join.joined.Goals as goal

pub returns-in-None-clause-stands : goal.returns-in-None-clause-stands
returns-in-None-clause-stands c = stands-itself c.args.script.now c.in_ok-text.text.items c.in_ok-text.ensures.text

pub returns-in-None-clause-counts : goal.returns-in-None-clause-counts
returns-in-None-clause-counts c = counts-itself c.args.script.now c.in_ok-text.text.items c.in_ok-text.counts c.in_ok-text.ensures.text c.in_ok-text.ensures.counts
