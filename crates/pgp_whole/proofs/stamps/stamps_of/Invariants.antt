use Rattle.std.proofs.Common.{map, take}
use Rattle.std.specs.Arc.{arc_value}
use Rattle.pgp_whole.specs.kept.Hearing.{AreStamps}
use Rattle.pgp_whole.proofs.stamps.stamps_of.Given as goal

abbrev pub invariant-loop-entry : goal.invariant-loop-entry
invariant-loop-entry l = AreStamps (map arc_value (take l.entry-index l.entries)) l.stamps
