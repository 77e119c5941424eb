use Rattle.std.proofs.Common.{◌≡◌, drop}
use Rattle.pgp_c.specs.Objects.{objects_of}
use Rattle.pgp_c.proofs.objects.objects_of.Given as goal

abbrev pub invariant-loop-peer : goal.invariant-loop-peer
invariant-loop-peer l = objects_of l.peers l.member ≡ objects_of (drop l.peer-index l.peers) l.member
