-- The index of a list of buckets without fault.
use Rattle.std.specs.Prelude.{◌≡◌, ℕ, ℤ, ◌<◌, List, length, map, None, slice_get}
use Rattle.std.specs.Ordering.{int_eq}
use Rattle.std.specs.HashMap as hash
use Rattle.std.specs.HashMap.{HashMap}
use Rattle.pgp_ids.specs.declared.bucket.BucketSpec.{BucketSpec}
use Rattle.pgp_crush.specs.Bucket.{bucket_of, root_of, place_of}
use Rattle.pgp_crush.specs.TreeFault.{tree_fault}

-- they have no fault, their root is the bucket at its place, and the index leads to each bucket from its id
pub record IsIndexed {R : Type 0} (buckets : List BucketSpec) (root : ℕ) (index : HashMap ℤ ℕ R) : Type 0 where
  pub faultless : tree_fault (map bucket_of buckets) ≡ None
  pub placed : root < length buckets
  pub rooted : root_of (map bucket_of buckets) ≡ slice_get (map bucket_of buckets) root
  pub indexed : (id : ℤ) → hash.get int_eq index id ≡ place_of (map bucket_of buckets) id 0
