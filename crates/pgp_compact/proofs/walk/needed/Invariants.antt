use Rattle.pgp_compact.proofs.Common.{IsLater, arc_value, are_needed, drop, is_needed, length, map, reverse, ◌-◌, ◌≡◌}
use Rattle.pgp_compact.proofs.walk.needed.Given as goal

abbrev pub invariant-loop-step : goal.invariant-loop-step
invariant-loop-step l = record {
  later : IsLater (map arc_value l.entries) (map arc_value (drop (length l.entries - l.step) l.entries)) l.later;
  choices : reverse l.choices.items ≡ are_needed (is_needed (map arc_value l.entries)) (map arc_value (drop (length l.entries - l.step) l.entries));
}
