use Rattle.std.proofs.Common.{◌≡◌, length, nat_eq}
use Rattle.std.specs.Prelude.{filter_map}
use Rattle.pgp_lists.specs.Repeats.{has_repeat}
use Rattle.pgp_map.proofs.temp_check.has_device_twice.Given as goal

abbrev pub invariant-loop-first : goal.invariant-loop-first
invariant-loop-first l = has_repeat nat_eq (filter_map (λ place. place) l.rest) ≡ has_repeat nat_eq (filter_map (λ place. place) l.places)

abbrev pub decreases-loop-first : goal.decreases-loop-first
decreases-loop-first l = length l.rest
