use Rattle.std.proofs.Common.{◌≡◌, ◌++◌, take, drop, map}
use Rattle.pgp_prior.specs.kept.KnownStatuses.{renamed}
use Rattle.pgp_prior.proofs.statuses.Statuses.set.Given as goal

-- the entries so far are renamed
abbrev pub invariant-loop-known : goal.invariant-loop-known
invariant-loop-known l = l.entries ≡ map (renamed l.osd l.status) (take l.known-index l.initial.entries) ++ drop l.known-index l.initial.entries
