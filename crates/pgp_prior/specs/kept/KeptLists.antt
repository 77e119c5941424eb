-- What past intervals that are kept give to a prior set.
use Rattle.std.specs.Prelude.{ℕ, List, Bool}
use Rattle.pgp_ids.specs.declared.member.Member.{Member}
use Rattle.pgp_prior.specs.declared.judged_interval.JudgedInterval.{JudgedInterval}
use Rattle.pgp_sets.specs.declared.status.Status.{Status}
use Rattle.pgp_prior.specs.Blocks.{is_up_status, matters, acting_where, down_osds}
use Rattle.pgp_prior.specs.kept.KnownStatuses.{status_or_gone}

-- the statuses that are kept with the interval
abbrev pub kept_status : JudgedInterval → ℕ → ℕ → Status
kept_status kept osd first = status_or_gone kept.statuses.known.items osd

abbrev pub kept_matters : ℕ → JudgedInterval → Bool
kept_matters les kept = matters les kept.past

abbrev pub kept_blocks : JudgedInterval → Bool
kept_blocks kept = kept.blocks

abbrev pub up_of : Bool → JudgedInterval → List Member
up_of by_place kept = acting_where is_up_status by_place (kept_status kept) kept.past

abbrev pub down_of : Bool → JudgedInterval → List ℕ
down_of by_place kept = down_osds by_place (kept_status kept) kept.past
