-- A bucket is told by its parts.
use Rattle.std.proofs.Common.{◌≡◌, ◌≤ℤ◌, ◌<ℤ◌, ℕ, ℤ, pos, negsuc, Bool, true, false, Some, length, ap, ◌∙◌, refl, arith}
use Rattle.std.proofs.lemmas.Bool.Decides.{nat_tests}
use Rattle.std.proofs.lemmas.Int.{ints}
use denote.Struct.Props.{props}
use Rattle.pgp_ids.specs.Bucket.{weight_count}
use Rattle.pgp_ids.specs.declared.bucket.BucketSpec.{BucketSpec}
use Rattle.pgp_lines.specs.MadeBucket.{is_bucket, made_if, sound_bucket, bucket_from}

low_is_prop : (a b : ℤ) → IsProp (a ≤ℤ b)
low_is_prop a b = hlevel props

negative_is_prop : (a b : ℤ) → IsProp (a <ℤ b)
negative_is_prop a b = hlevel props

same_is_prop : (a b : ℕ) → IsProp (a ≡ b)
same_is_prop a b = hlevel props

made_here : (test : Bool) (make : test ≡ true → BucketSpec) (b : BucketSpec) → test ≡ true → ((is : test ≡ true) → make is ≡ b) → made_if test make ≡ Some b
made_here true make b is same = ap Some (same refl)
made_here false make b is same = cc

same_bucket : (b : BucketSpec) (is : is_bucket b.id b.alg b.items b.weights ≡ true) → sound_bucket b.id b.kind b.alg b.items b.weights is ≡ b
same_bucket b is =
    let made = sound_bucket b.id b.kind b.alg b.items b.weights is in
    let with_low : negsuc 65535 ≤ℤ b.id → BucketSpec = λ low. record made { low = low } in
    let with_negative : b.id <ℤ pos 0 → BucketSpec = λ negative. record made { low = b.low; negative = negative } in
    let with_weighed : length b.weights ≡ weight_count b.alg (length b.items) → BucketSpec = λ weighed. record b { weighed = weighed } in
    ap with_low (low_is_prop (negsuc 65535) b.id made.low b.low)
    ∙ ap with_negative (negative_is_prop b.id (pos 0) made.negative b.negative)
    ∙ ap with_weighed (same_is_prop (length b.weights) (weight_count b.alg (length b.items)) made.weighed b.weighed)

is_bucket-true : (b : BucketSpec) → is_bucket b.id b.alg b.items b.weights ≡ true
is_bucket-true b =
    let low = b.low in
    let negative = b.negative in
    let weighed = b.weighed in
    grind (arith, ints, nat_tests)

-- a bucket is the one that is made of its parts
pub bucket_of-parts : (b : BucketSpec) → bucket_from b.id b.kind b.alg b.items b.weights ≡ Some b
bucket_of-parts b =
    made_here (is_bucket b.id b.alg b.items b.weights) (sound_bucket b.id b.kind b.alg b.items b.weights) b (is_bucket-true b) (same_bucket b)
