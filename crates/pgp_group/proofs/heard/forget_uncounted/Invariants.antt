use Rattle.pgp_group.proofs.Common.{◌≡◌, length, filter, HasDistinctMembers, GroupLog, IsPresent}
use Rattle.pgp_group.specs.Heard.{counts}
use Rattle.pgp_group.proofs.heard.forget_uncounted.Given as goal

-- the infos that count are left
abbrev pub invariant-loop-info : goal.invariant-loop-info
invariant-loop-info l = record {
  prefer : l.best.prefer ≡ l.initial.best.prefer;
  left : (g : GroupLog) → IsPresent g l.map l.first → HasDistinctMembers l.initial.best.infos
      → HasDistinctMembers l.best.infos × (filter (counts g) l.best.infos ≡ filter (counts g) l.initial.best.infos);
}

abbrev pub decreases-loop-info : goal.decreases-loop-info
decreases-loop-info l = length l.best.infos
