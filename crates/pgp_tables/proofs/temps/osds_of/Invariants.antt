use Rattle.std.proofs.Common.{◌≡◌, ◌≤◌, take, length}
use Rattle.pgp_tables.proofs.temps.osds_of.Given as goal

abbrev pub invariant-loop-place : goal.invariant-loop-place
invariant-loop-place l = record {
  value : l.osds ≡ take l.place-index l.places;
  within : length l.osds ≤ 16;
}
