-- The buckets of a placement tree as plain data, and how an item names one of them.
use Rattle.std.specs.Prelude.{ℕ, ℤ, List, Bool, false, not, Option, nat_eq, if◌then◌else◌}
use Rattle.std.specs.List.{find, list_any, position_from}
use Rattle.std.specs.Option.{option_map_or}
use Rattle.std.specs.Int.{is_negative}
use Rattle.std.specs.Ordering.{int_eq}
use Rattle.pgp_ids.specs.declared.bucket.BucketAlg.{BucketAlg}
use Rattle.pgp_ids.specs.declared.bucket.BucketSpec.{BucketSpec}

-- A bucket. Its items are buckets by their ids, which are negative, and devices by their numbers.
pub record Bucket : Type 0 where
  pub id : ℤ
  pub kind : ℕ
  pub alg : BucketAlg
  pub items : List ℤ
  pub weights : List ℕ

-- the data of a bucket of the program
abbrev pub bucket_of : BucketSpec → Bucket
bucket_of b = record { id = b.id; kind = b.kind; alg = b.alg; items = b.items; weights = b.weights }

-- the bucket of this id
abbrev pub bucket_at : List Bucket → ℤ → Option Bucket
bucket_at tree id = find (λ b. int_eq b.id id) tree

-- the place of the first bucket of this id, the places counted from `first` on
abbrev pub place_of : List Bucket → ℤ → ℕ → Option ℕ
place_of tree id first = position_from (λ b. int_eq b.id id) first tree

-- the item is a device
abbrev pub is_device : ℤ → Bool
is_device item = not (is_negative item)

-- the item has this type: that of the bucket, and 0 for a device
abbrev pub has_kind : List Bucket → ℕ → ℤ → Bool
has_kind tree kind item =
    if is_device item then nat_eq kind 0 else option_map_or (λ b. nat_eq b.kind kind) (bucket_at tree item) false

-- some of these buckets holds the item
abbrev pub is_held : List Bucket → ℤ → Bool
is_held buckets item = list_any (λ b. list_any (int_eq item) b.items) buckets

-- the bucket that none holds
abbrev pub root_of : List Bucket → Option Bucket
root_of tree = find (λ b. not (is_held tree b.id)) tree
