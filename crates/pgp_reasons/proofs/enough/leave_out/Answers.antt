use Rattle.pgp_reasons.proofs.SetLemmas.{left_out}
use Rattle.pgp_reasons.proofs.enough.leave_out.Goals as goal

pub returns : goal.returns
returns g c =
    left_out (g.E.Enough.enough c.args.judge.now) (g.met.E.Enough.monotone c.args.judge.now) c.args.among.now c.loop-place.set.items c.from_vec.result c.loop-place.place
    c.requires c.loop-place-test.false c.loop-place.invariant c.from_vec.ensures
