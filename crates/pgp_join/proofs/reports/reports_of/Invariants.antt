use Rattle.std.proofs.Common.{◌≡◌, map, take}
use Rattle.std.specs.Arc.{arc_value}
use Rattle.pgp_group.specs.Entries.{reports_of}
use Rattle.pgp_join.proofs.reports.reports_of.Given as goal

abbrev pub invariant-loop-entry : goal.invariant-loop-entry
invariant-loop-entry l = map (λ it. it.now) l.reports.items ≡ reports_of (map arc_value (take l.entry-index l.entries))
