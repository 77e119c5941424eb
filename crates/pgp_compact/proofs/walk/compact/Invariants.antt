use Rattle.pgp_compact.proofs.Common.{arc_value, chosen, compacted, drop, map, ◌++◌, ◌≡◌}
use Rattle.pgp_compact.proofs.walk.compact.Given as goal

abbrev pub invariant-loop-place : goal.invariant-loop-place
invariant-loop-place l =
    map arc_value l.kept.items ++ chosen (drop l.place l.choices.items) (drop l.place (map arc_value l.entries)) ≡ compacted (map arc_value l.entries)
