use Rattle.std.proofs.Common.{◌≡◌, replicate, None}
use Rattle.pgp_crush.proofs.placement.place.Given as goal

abbrev pub invariant-loop-place : goal.invariant-loop-place
invariant-loop-place l = l.osds ≡ replicate l._place None
