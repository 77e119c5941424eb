use Rattle.std.proofs.Common.{◌≡◌, [], map, nat_lt, take}
use Rattle.std.specs.Arc.{arc_value}
use Rattle.std.specs.List.{flat_map}
use Rattle.pgp_lists.specs.Ordered.{IsAscending, with_items}
use Rattle.pgp_missing.specs.Log.{number_of}
use Rattle.pgp_group.specs.GroupLog.{GroupLog}
use Rattle.pgp_group.specs.Present.{IsPresent}
use Rattle.pgp_reasons.specs.Reported.{entries_in}
use Rattle.pgp_reasons.proofs.gaps.reported_numbers.Given as goal

abbrev pub invariant-loop-entry : goal.invariant-loop-entry
invariant-loop-entry l = record {
  numbers : (g : GroupLog) → g.pg ≡ l.pg → IsPresent g l.map l.first
      → l.numbers.items ≡ with_items nat_lt (map number_of (flat_map (entries_in g l.member) (map arc_value (take l.entry-index l.entries)))) [];
  order : IsAscending nat_lt l.numbers.items;
}
