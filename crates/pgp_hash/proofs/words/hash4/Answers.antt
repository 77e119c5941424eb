use Rattle.std.proofs.Common.{refl}
use Rattle.pgp_hash.specs.Hash.{hash4}
use Rattle.pgp_hash.proofs.words.hash4.Goals as goal

pub returns : goal.returns
unfolding hash4
returns c = rw (c.mixed.ensures, c.mixed-cx.ensures, c.mixed-yb.ensures, c.mixed-ax.ensures, c.mixed-cd.ensures, c.mixed-ab.ensures) refl
