use Rattle.pgp_group.proofs.Common.{◌≡◌, enough_of, is_by_place, IsIntervalsOf, GroupLog, cleans, IsAbreast}
use Rattle.pgp_group.proofs.kept_prior.KeptPrior.add_more.Given as goal

-- the intervals so far are added
abbrev pub invariant-loop-place : goal.invariant-loop-place
invariant-loop-place l = record {
  added : l.self.added ≡ l.place;
  abreast : (g : GroupLog) → IsIntervalsOf enough_of is_by_place g.history (cleans g) l.intervals
      → IsAbreast g l.map l.initial.self.added l.initial.self.index l.initial.self.noted.items
      → IsAbreast g l.map l.self.added l.self.index l.self.noted.items;
}
