use Rattle.std.proofs.Common.{◌+◌, refl, ap, arith}
use Rattle.pgp_interval.specs.History.{last_place}
use Rattle.pgp_interval.specs.Runs.{opening_of}
use Rattle.pgp_interval.proofs.IntervalLemmas.{IsInterval-opening_of, opening_of-interval}
use Rattle.pgp_interval.proofs.laws.current_interval_reaches_the_last_epoch.Goals as goal

pub returns-clause-run : goal.returns-clause-run
returns-clause-run g c = λ h. (
  opening_of h (last_place h),
  refl,
  IsInterval-opening_of h (last_place h) (omega arith) (λ over. absurd (omega arith)),
)

pub returns-clause-only : goal.returns-clause-only
returns-clause-only g c = λ h first run. ap (λ k. h.first + k) (opening_of-interval h first (last_place h) run)
