use Rattle.std.proofs.Common.{◌≡◌, take}
use Rattle.pgp_ids.specs.Parts.{set_of, has_twice}
use Rattle.pgp_ids.proofs.part.Part.new.Given as goal

abbrev pub invariant-loop-slot : goal.invariant-loop-slot
invariant-loop-slot l = record {
  set_is : l.set ≡ set_of (take l.slot-index l.slots);
  twice_is : l.twice ≡ has_twice (take l.slot-index l.slots);
}
