use Rattle.std.proofs.Common.{◌≡◌, ℕ, ◌+◌, ◌<◌, ℤ, List, [], ◌++◌, Bool, cond, map, length, take, get_or, append-nil, inl, inr}
use Rattle.std.specs.List.{filter}
use Rattle.std.specs.Ordering.{int_eq}
use Rattle.std.specs.HashSet as bag
use Rattle.std.proofs.lemmas.Bool.{cases_Bool}
use Rattle.std.proofs.lemmas.List.{map_more}
use Rattle.std.proofs.lemmas.List.Concat.{flat_map-append}
use Rattle.std.proofs.lemmas.List.Elements.{filter-append}
use Rattle.pgp_ids.specs.declared.bucket.BucketSpec.{BucketSpec}
use Rattle.pgp_crush.specs.Bucket.{bucket_of}
use Rattle.pgp_crush.specs.TreeFault.{items_of}
use Rattle.pgp_crush.proofs.depth.items_within.Goals as goal
use Rattle.pgp_crush.proofs.depth.items_within.Goals.{then-contains+in_ok-extend_from_slice, else-contains}

within-more : (held : ℤ → Bool) (bs : List BucketSpec) (i : ℕ) (b : BucketSpec) → i < length bs → b ≡ get_or bs i b →
    items_of (filter (λ b. held b.id) (map bucket_of (take (i + 1) bs))) ≡ items_of (filter (λ b. held b.id) (map bucket_of (take i bs))) ++ cond (held b.id) b.items []
within-more held bs i b within at =
    rw (map_more bucket_of bs i b within, ← at, filter-append, flat_map-append)
    (elim (cases_Bool (held b.id)) [ inl passes ↦ rw (passes, append-nil) | inr fails ↦ rw fails ])

pub loop-bucket-preserved : goal.loop-bucket-preserved
loop-bucket-preserved c =
    rw (within-more (bag.contains int_eq c.args.ids.now) c.args.buckets.now c.loop-bucket.bucket-index c.bucket-item.result c.loop-bucket-test.true c.bucket-item.is)
    (elim c.if-contains.branch [
      | then-contains+in_ok-extend_from_slice w ↦ rw (w.items-is, ← c.contains.ensures, w.if-contains.true) (cc (w.in_ok-extend_from_slice.ensures.items, w.as_slice.ensures, c.loop-bucket.invariant))
      | else-contains w ↦ rw (w.items-is, ← c.contains.ensures, w.if-contains.false, append-nil) c.loop-bucket.invariant
    ])
