use Rattle.std.proofs.Common.{◌≡◌, [], drop}
use Rattle.pgp_reasons.proofs.SetLemmas.{lean}
use Rattle.pgp_reasons.proofs.enough.leave_out.Given as goal

abbrev pub invariant-loop-place : goal.invariant-loop-place
invariant-loop-place g l =
    lean (g.E.Enough.enough l.judge) l.set.items (drop l.place l.among) ≡ lean (g.E.Enough.enough l.judge) [] l.among
