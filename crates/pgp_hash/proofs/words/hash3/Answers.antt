use Rattle.std.proofs.Common.{refl}
use Rattle.pgp_hash.specs.Hash.{hash3}
use Rattle.pgp_hash.proofs.words.hash3.Goals as goal

pub returns : goal.returns
unfolding hash3
returns c = rw (c.mixed.ensures, c.mixed-bx.ensures, c.mixed-ya.ensures, c.mixed-cx.ensures, c.mixed-ab.ensures) refl
