use Rattle.std.proofs.Common.{◌≡◌, ◌≤◌, ℤ, drop, map, length}
use Rattle.std.specs.Ordering.{int_eq}
use Rattle.std.specs.HashMap as hash
use Rattle.pgp_crush.specs.Bucket.{bucket_of, place_of}
use Rattle.pgp_crush.proofs.index.index_of.Given as goal

abbrev pub invariant-loop-place : goal.invariant-loop-place
invariant-loop-place l = record {
  within : l.place ≤ length l.buckets;
  same : (q : ℤ) → hash.get int_eq l.index q ≡ place_of (map bucket_of (drop l.place l.buckets)) q l.place;
}

abbrev pub decreases-loop-place : goal.decreases-loop-place
decreases-loop-place l = l.place
