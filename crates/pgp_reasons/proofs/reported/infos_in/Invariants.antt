use Rattle.std.proofs.Common.{◌≡◌, map, take}
use Rattle.std.specs.Arc.{arc_value}
use Rattle.std.specs.List.{filter_map}
use Rattle.pgp_reasons.specs.Reported.{info_in}
use Rattle.pgp_reasons.proofs.reported.infos_in.Given as goal

abbrev pub invariant-loop-entry : goal.invariant-loop-entry
invariant-loop-entry l = l.infos.items ≡ filter_map (info_in l.pg) (map arc_value (take l.entry-index l.entries))
