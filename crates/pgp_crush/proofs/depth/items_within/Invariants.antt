use Rattle.std.proofs.Common.{◌≡◌, map, take}
use Rattle.std.specs.List.{filter}
use Rattle.std.specs.Ordering.{int_eq}
use Rattle.std.specs.HashSet as bag
use Rattle.pgp_crush.specs.Bucket.{bucket_of}
use Rattle.pgp_crush.specs.TreeFault.{items_of}
use Rattle.pgp_crush.proofs.depth.items_within.Given as goal

abbrev pub invariant-loop-bucket : goal.invariant-loop-bucket
invariant-loop-bucket l = l.items.items ≡ items_of (filter (λ b. bag.contains int_eq l.ids b.id) (map bucket_of (take l.bucket-index l.buckets)))
