-- Buckets whose parts go together: the id is one of a bucket, and it has a weight for each item, or none in a uniform bucket.
use Rattle.std.specs.Prelude.{◌≡◌, ℕ, ℤ, pos, negsuc, ◌≤ℤ◌, ◌<ℤ◌, List, length, Bool, true, false, ◌&&◌, nat_eq, int_le, int_lt, Option, Some, None, refl}
use Rattle.std.proofs.Common.{arith}
use Rattle.std.proofs.lemmas.Bool.Decides.{nat_tests}
use Rattle.std.proofs.lemmas.Int.{ints}
use Rattle.pgp_ids.specs.Bucket.{weight_count}
use Rattle.pgp_ids.specs.declared.bucket.BucketAlg.{BucketAlg}
use Rattle.pgp_ids.specs.declared.bucket.BucketSpec.{BucketSpec}

-- the id is from -65536 to -1, and it has a weight for each item, or none in a uniform bucket
abbrev pub is_bucket : ℤ → BucketAlg → List ℤ → List ℕ → Bool
is_bucket id alg items weights =
    (int_le (negsuc 65535) id && int_lt id (pos 0)) && nat_eq (length weights) (weight_count alg (length items))

-- what a test that holds makes
abbrev pub made_if : {A : Type 0} (test : Bool) → (test ≡ true → A) → Option A
made_if true make = Some (make refl)
made_if false make = None

pub is_bucket-low : (id : ℤ) (alg : BucketAlg) (items : List ℤ) (weights : List ℕ) → is_bucket id alg items weights ≡ true → negsuc 65535 ≤ℤ id
is_bucket-low id alg items weights is = grind (arith, ints, nat_tests)

pub is_bucket-negative : (id : ℤ) (alg : BucketAlg) (items : List ℤ) (weights : List ℕ) → is_bucket id alg items weights ≡ true → id <ℤ pos 0
is_bucket-negative id alg items weights is = grind (arith, ints, nat_tests)

pub is_bucket-weighed : (id : ℤ) (alg : BucketAlg) (items : List ℤ) (weights : List ℕ) → is_bucket id alg items weights ≡ true
    → length weights ≡ weight_count alg (length items)
is_bucket-weighed id alg items weights is = grind (arith, ints, nat_tests)

-- the bucket of parts that go together
abbrev pub sound_bucket : (id : ℤ) (kind : ℕ) (alg : BucketAlg) (items : List ℤ) (weights : List ℕ) → is_bucket id alg items weights ≡ true → BucketSpec
sound_bucket id kind alg items weights is = record {
  id = id;
  kind = kind;
  alg = alg;
  items = items;
  weights = weights;
  low = is_bucket-low id alg items weights is;
  negative = is_bucket-negative id alg items weights is;
  weighed = is_bucket-weighed id alg items weights is;
}

-- the bucket of these parts, where they go together
abbrev pub bucket_from : ℤ → ℕ → BucketAlg → List ℤ → List ℕ → Option BucketSpec
bucket_from id kind alg items weights = made_if (is_bucket id alg items weights) (sound_bucket id kind alg items weights)
