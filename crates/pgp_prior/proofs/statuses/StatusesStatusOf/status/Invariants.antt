use Rattle.std.proofs.Common.{◌≡◌, drop}
use Rattle.pgp_prior.specs.kept.KnownStatuses.{status_or_gone}
use Rattle.pgp_prior.proofs.statuses.StatusesStatusOf.status.Given as goal

-- no entry so far is of the device
abbrev pub invariant-loop-known : goal.invariant-loop-known
invariant-loop-known l = status_or_gone (drop l.known-index l.self.known.items) l.osd ≡ status_or_gone l.self.known.items l.osd
