-- How many weights a bucket has.
use Rattle.std.specs.Prelude.{ℕ}
use Rattle.pgp_ids.specs.declared.bucket.BucketAlg.{BucketAlg}
use Rattle.pgp_ids.specs.declared.bucket.BucketAlg.TheVariants.{Uniform, List, Straw2}

-- none in a uniform bucket, else one for each item
abbrev pub weight_count : BucketAlg → ℕ → ℕ
weight_count Uniform items = 0
weight_count List items = items
weight_count Straw2 items = items
