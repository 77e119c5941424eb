use Rattle.std.proofs.Common.{◌≡◌, take}
use Rattle.pgp_map.proofs.map.OsdMap.copied_temp.Given as goal

abbrev pub invariant-loop-place : goal.invariant-loop-place
invariant-loop-place l = l.copy ≡ take l.place-index l.place-items
