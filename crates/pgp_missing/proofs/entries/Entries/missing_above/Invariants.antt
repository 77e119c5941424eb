use Rattle.std.proofs.Common.{◌≡◌, fold, map}
use Rattle.std.specs.Cmp.Lexicographic.{slice_cmp}
use Rattle.std.specs.Ordering.{nat_cmp}
use Rattle.pgp_missing.specs.Last.{put_in}
use Rattle.pgp_missing.specs.Missing.{object_of, by_object}
use Rattle.pgp_missing.specs.Kept.{numbered, named}
use Rattle.pgp_missing.specs.Log.{between}
use Rattle.pgp_missing.proofs.entries.Entries.missing_above.Given as goal

abbrev pub invariant-loop-number : goal.invariant-loop-number
invariant-loop-number l =
    fold (put_in object_of (slice_cmp nat_cmp)) (map named l.newest.entries) (map numbered l.number-iterator)
    ≡ by_object (between l.above l.last l.self)
