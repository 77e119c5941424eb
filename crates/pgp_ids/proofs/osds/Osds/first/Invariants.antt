use Rattle.std.proofs.Common.{◌≡◌, drop}
use Rattle.pgp_ids.specs.Osds.{first_osd}
use Rattle.pgp_ids.proofs.osds.Osds.first.Given as goal

abbrev pub invariant-loop-place : goal.invariant-loop-place
invariant-loop-place l = first_osd l.place-items ≡ first_osd (drop l.place-index l.place-items)
