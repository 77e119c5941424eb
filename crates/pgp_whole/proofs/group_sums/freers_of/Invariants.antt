use Rattle.std.proofs.Common.{◌≡◌, List, [], ◌∷◌, take}
use Rattle.std.specs.List.{filter}
use Rattle.pgp_ids.specs.declared.entry.Entry.{Entry}
use Rattle.pgp_group.specs.GroupLog.{GroupLog}
use Rattle.pgp_reasons.specs.GroupWays.{brings_back}
use Rattle.pgp_reasons.specs.Reasons.{IsViewed}
use Rattle.pgp_whole.proofs.group_sums.freers_of.Given as goal

abbrev pub invariant-loop-osd : goal.invariant-loop-osd
invariant-loop-osd l = (log : List Entry) (g : GroupLog) → IsViewed log l.map l.pg l.view g
    → l.osds.items ≡ filter (λ osd. brings_back g (osd ∷ [])) (take l.osd-index l.osd-items)
