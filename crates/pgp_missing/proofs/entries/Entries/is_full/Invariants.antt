use Rattle.std.proofs.Common.{◌≡◌, ◌+◌, ◌-◌, length, map}
use Rattle.pgp_missing.specs.Kept.{numbered}
use Rattle.pgp_missing.specs.Log.{between}
use Rattle.pgp_missing.proofs.entries.Entries.is_full.Given as goal

abbrev pub invariant-loop : goal.invariant-loop
invariant-loop l =
    l.lacking + length (between l.above l.last l.self) ≡ (l.last - l.above) + length (map numbered l.iterator')
