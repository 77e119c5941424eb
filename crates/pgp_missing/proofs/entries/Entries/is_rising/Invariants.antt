use Rattle.std.proofs.Common.{◌≡◌, map}
use Rattle.pgp_missing.specs.Log.{between, is_rising_from}
use Rattle.pgp_missing.specs.Kept.{numbered}
use Rattle.pgp_missing.proofs.entries.Entries.is_rising.Given as goal

abbrev pub invariant-loop-write : goal.invariant-loop-write
invariant-loop-write l =
    is_rising_from l.epoch (map numbered l.write-iterator) ≡ is_rising_from l.fn.after.epoch (between l.fn.after.v l.last l.self)
