-- The placement tree of a map incremental, as C gives it. This project's own choice.
use Rattle.std.specs.Prelude.{ℕ, ℤ, pos, negsuc, int_le, ◌&&◌, List, [], Option, Some, None, nat_eq, if◌then◌else◌}
use Rattle.pgp_ids.specs.declared.bucket.BucketAlg.{BucketAlg}
use Rattle.pgp_ids.specs.declared.bucket.BucketAlg.TheVariants.{Uniform, List as Weighed, Straw2}
use Rattle.pgp_ids.specs.declared.bucket.BucketSpec.{BucketSpec}
use Rattle.pgp_lines.specs.MadeBucket.{bucket_from}
use Rattle.pgp_lines.specs.Shapes.{◌>>=◌}
use Rattle.pgp_c.specs.Each.{each_given}
use Rattle.pgp_c.specs.declared.tree.PgpBucket.{PgpBucket}
use Rattle.pgp_c.specs.declared.tree.PgpItem.{PgpItem}

-- how a bucket of this number chooses
abbrev pub alg_numbered : ℕ → Option BucketAlg
alg_numbered number = if nat_eq number 0 then Some Uniform else (if nat_eq number 1 then Some Weighed else (if nat_eq number 2 then Some Straw2 else None))

-- a bucket by its id, or a device by its number
abbrev pub item_of : PgpItem → Option ℤ
item_of given = if int_le (negsuc 65535) given.id && int_le given.id (pos 65535) then Some given.id else None

abbrev pub weight_of : PgpItem → Option ℕ
weight_of given = Some given.weight

-- the weights of the items, of which a uniform bucket has none
abbrev pub weights_of : BucketAlg → List PgpItem → Option (List ℕ)
weights_of Uniform items = Some []
weights_of Weighed items = each_given weight_of items
weights_of Straw2 items = each_given weight_of items

abbrev pub given_bucket : PgpBucket → Option BucketSpec
given_bucket given = do
  alg ← alg_numbered given.alg
  items ← each_given item_of given.items.now
  weights ← weights_of alg given.items.now
  bucket_from given.id given.kind alg items weights
