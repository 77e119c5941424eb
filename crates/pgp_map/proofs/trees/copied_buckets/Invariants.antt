use Rattle.std.proofs.Common.{◌≡◌, map, take}
use Rattle.pgp_crush.specs.Bucket.{bucket_of}
use Rattle.pgp_map.proofs.trees.copied_buckets.Given as goal

abbrev pub invariant-loop-bucket : goal.invariant-loop-bucket
invariant-loop-bucket l = map bucket_of l.copies.items ≡ map bucket_of (take l.bucket-index l.buckets)
