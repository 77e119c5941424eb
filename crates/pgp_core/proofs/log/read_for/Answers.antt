use Rattle.std.proofs.Common.{◌∙◌, arith}
use Rattle.std.proofs.lemmas.List.{take_all}
use Rattle.pgp_core.proofs.log.read_for.Goals as goal

pub returns-clause-read : goal.returns-clause-read
returns-clause-read c = λ is. c.in_ok-absorb_next.ensures.ok.front_is ∙ rw c.entries.ensures.entries (take_all _ c.args.log.now (omega arith))

pub returns-clause-reading : goal.returns-clause-reading
returns-clause-reading c = rw (← c.entries.ensures.entries) (c.absorb_next.ensures.reading 1 0 (rw c.entries.ensures.entries c.requires))

pub returns-in_err-absorb_next-clause-reading : goal.returns-in_err-absorb_next-clause-reading
returns-in_err-absorb_next-clause-reading c = rw (← c.entries.ensures.entries) (c.absorb_next.ensures.reading 1 0 (rw c.entries.ensures.entries c.requires))
