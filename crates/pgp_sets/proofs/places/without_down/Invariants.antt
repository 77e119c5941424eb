use Rattle.std.proofs.Common.{◌≡◌, ◌≤◌, None, false, take, filter, map, length, if◌then◌else◌}
use Rattle.std.specs.Option.{option_map_or}
use Rattle.pgp_map.specs.Held.{held_up}
use Rattle.pgp_sets.proofs.places.without_down.Given as goal

abbrev pub invariant-loop-place : goal.invariant-loop-place
invariant-loop-place l = record {
  value : l.osds ≡ (if l.keeps_places then map (λ place. if option_map_or (held_up l.map) place false then place else None) (take l.place-index l.places)
      else filter (λ place. option_map_or (held_up l.map) place false) (take l.place-index l.places));
  within : length l.osds ≤ l.place-index;
}
