use Rattle.std.proofs.Common.{arith}
use Rattle.pgp_core.proofs.FeedLemmas.{none_in_front, none_at_all}
use Rattle.pgp_core.proofs.input.split_line.Goals as goal

pub returns-in_err-at-clause-none : goal.returns-in_err-at-clause-none
returns-in_err-at-clause-none c = rw c.from_residual.ensures (none_at_all c.args.bytes.now c.in_err-at.ensures)

pub returns-clause-one_line : goal.returns-clause-one_line
returns-clause-one_line c =
    none_in_front c.in_ok-at.at c.args.bytes.now (omega (arith, c.in_ok-at.ensures.0.high)) c.in_ok-at.ensures.0.before
