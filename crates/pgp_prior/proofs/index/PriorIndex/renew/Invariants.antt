use Rattle.std.proofs.Common.{◌≡◌, ℕ, drop, map}
use Rattle.pgp_sets.specs.declared.status.Status.{Status}
use Rattle.pgp_prior.specs.Changes.{allows, IsChange}
use Rattle.pgp_prior.specs.kept.JudgedInterval.{past_of, IsUnderWay}
use Rattle.pgp_prior.proofs.index.PriorIndex.renew.Given as goal

-- the intervals at the places so far are renewed
abbrev pub invariant-loop-place : goal.invariant-loop-place
invariant-loop-place g l =
    let enough = g.R.Recoverable.enough l.fn.self.code in
    let by_place = g.R.Recoverable.by_place l.fn.self.code in
    (map past_of l.past ≡ map past_of l.initial.past)
    × ((old new : ℕ → ℕ → Status)
    → IsChange (allows l.change) by_place l.osd (g.S.StatusOf.status_of l.statuses) old new (map past_of l.initial.past)
    → IsUnderWay enough by_place l.fn.self.les old new l.place-items l.initial.past
    → IsUnderWay enough by_place l.fn.self.les old new (drop l.place-index l.place-items) l.past)
