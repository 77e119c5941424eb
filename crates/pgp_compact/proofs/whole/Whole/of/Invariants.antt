use Rattle.pgp_compact.proofs.Common.{HasReadFront, arc_value, map, take}
use Rattle.pgp_compact.proofs.whole.Whole.of.Given as goal

abbrev pub invariant-loop-entry : goal.invariant-loop-entry
invariant-loop-entry l = HasReadFront (map arc_value l.entries) (map arc_value (take l.entry-index l.entries)) l.whole
