use Rattle.std.proofs.Common.{◌≡◌, map, take}
use Rattle.pgp_crush.specs.Bucket.{bucket_of}
use Rattle.pgp_crush.specs.TreeFault.{items_of}
use Rattle.pgp_crush.proofs.faults.items_of.Given as goal

abbrev pub invariant-loop-bucket : goal.invariant-loop-bucket
invariant-loop-bucket l = l.items.items ≡ items_of (map bucket_of (take l.bucket-index l.buckets))
