use Rattle.pgp_compact.proofs.Common.{AreLastCleans, arc_value, drop, length, map, ◌-◌}
use Rattle.pgp_compact.proofs.whole.Whole.last_cleans.Given as goal

abbrev pub invariant-loop-step : goal.invariant-loop-step
invariant-loop-step l = AreLastCleans (map arc_value l.entries) (map arc_value (drop (length l.entries - l.step) l.entries)) l.cleans.table
