use Rattle.std.proofs.Common.{◌≡◌, map, take}
use Rattle.pgp_crush.specs.Bucket.{bucket_of}
use Rattle.pgp_crush.proofs.faults.ids_of.Given as goal

abbrev pub invariant-loop-bucket : goal.invariant-loop-bucket
invariant-loop-bucket l = l.ids.items ≡ map (λ b. b.id) (map bucket_of (take l.bucket-index l.buckets))
