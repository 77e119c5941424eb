use Rattle.std.proofs.Common.{◌≡◌, map, take}
use Rattle.std.specs.Arc.{arc_value}
use Rattle.pgp_core.specs.Counts.{counts_of}
use Rattle.pgp_core.proofs.counts.EntryCounts.of.Given as goal

abbrev pub invariant-loop-entry : goal.invariant-loop-entry
invariant-loop-entry l = l.counts ≡ counts_of (map arc_value (take l.entry-index l.entries))
