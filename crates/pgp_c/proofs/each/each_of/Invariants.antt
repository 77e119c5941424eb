use Rattle.std.proofs.Common.{◌≡◌, take, Some}
use Rattle.pgp_c.specs.Each.{each_given}
use Rattle.pgp_c.proofs.each.each_of.Given as goal

abbrev pub invariant-loop-it : goal.invariant-loop-it
invariant-loop-it g l = each_given g.T.OfC.of_c (take l.it-index l.given) ≡ Some l.values
