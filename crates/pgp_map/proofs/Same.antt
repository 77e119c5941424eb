-- Whether two values of a map are the same, part by part.
use Rattle.std.specs.Prelude.{◌&&◌, Bool, true, false, nat_eq}
use Rattle.std.proofs.Math.Bool.{beq}
use Rattle.std.specs.Cmp.Lexicographic.{pointwise}
use Rattle.std.specs.Option.{option_eq}
use Rattle.std.specs.Ordering.{int_eq}
use Rattle.pgp_ids.specs.declared.bucket.BucketAlg.{BucketAlg}
use Rattle.pgp_ids.specs.declared.bucket.BucketAlg.TheVariants.{Uniform, List as ListAlg, Straw2}
use Rattle.pgp_ids.specs.declared.bucket.BucketSpec.{BucketSpec}
use Rattle.pgp_ids.specs.declared.part.Part.{Part}
use Rattle.pgp_ids.specs.declared.pool.PoolKind.{PoolKind}
use Rattle.pgp_ids.specs.declared.pool.PoolKind.TheVariants.{Replicated, Erasure, Grouped}
use Rattle.pgp_ids.specs.declared.pool.PoolSpec.{PoolSpec}

abbrev pub is_same_part : Part → Part → Bool
is_same_part a b = pointwise nat_eq a.slots b.slots && nat_eq a.least b.least && beq a.twice b.twice

abbrev pub is_same_kind : PoolKind → PoolKind → Bool
is_same_kind Replicated Replicated = true
is_same_kind Replicated (Erasure l) = false
is_same_kind Replicated (Grouped parts) = false
is_same_kind (Erasure k) Replicated = false
is_same_kind (Erasure k) (Erasure l) = nat_eq k l
is_same_kind (Erasure k) (Grouped parts) = false
is_same_kind (Grouped parts) Replicated = false
is_same_kind (Grouped parts) (Erasure l) = false
is_same_kind (Grouped parts) (Grouped others) = pointwise (option_eq is_same_part) parts others

abbrev pub is_same_pool : PoolSpec → PoolSpec → Bool
is_same_pool a b =
    nat_eq a.id b.id && nat_eq a.pg_num b.pg_num && is_same_kind a.kind b.kind && nat_eq a.size b.size && nat_eq a.min_size b.min_size
    && nat_eq a.leaf b.leaf

abbrev pub is_same_alg : BucketAlg → BucketAlg → Bool
is_same_alg Uniform Uniform = true
is_same_alg Uniform ListAlg = false
is_same_alg Uniform Straw2 = false
is_same_alg ListAlg Uniform = false
is_same_alg ListAlg ListAlg = true
is_same_alg ListAlg Straw2 = false
is_same_alg Straw2 Uniform = false
is_same_alg Straw2 ListAlg = false
is_same_alg Straw2 Straw2 = true

abbrev pub is_same_bucket : BucketSpec → BucketSpec → Bool
is_same_bucket a b =
    int_eq a.id b.id && nat_eq a.kind b.kind && is_same_alg a.alg b.alg && pointwise int_eq a.items b.items && pointwise nat_eq a.weights b.weights
