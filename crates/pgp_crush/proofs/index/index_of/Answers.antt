use Rattle.std.proofs.Common.{◌≡◌, ℕ, ◌+◌, ◌-◌, ◌<◌, ℤ, List, cond, Some, map, length, drop, get_or, drop-cons, add-one, FitsSigned, w32, rules, arith}
use Rattle.std.specs.Ordering.{int_eq}
use Rattle.std.proofs.lemmas.Int.{to_z-of_z}
use Rattle.pgp_ids.specs.declared.bucket.BucketSpec.{BucketSpec}
use Rattle.pgp_crush.specs.Bucket.{bucket_of, place_of}
use Rattle.pgp_crush.proofs.index.index_of.Goals as goal

place-before : (bs : List BucketSpec) (q : ℤ) (k m : ℕ) (b : BucketSpec) → k < length bs → b ≡ get_or bs k b → m ≡ k + 1 →
    place_of (map bucket_of (drop k bs)) q k ≡ cond (int_eq b.id q) (Some k) (place_of (map bucket_of (drop m bs)) q m)
place-before bs q k m b within at next = rw (next, drop-cons bs k b, ← at, add-one)

pub loop-place-preserved : goal.loop-place-preserved
loop-place-preserved c =
    let fits : FitsSigned w32 c.index-buckets-place.result.id = search rules in
    record {
      within = omega arith;
      same = λ q.
          rw (place-before c.args.buckets.now q (c.loop-place.place - 1) c.loop-place.place c.index-buckets-place.result (omega arith) c.index-buckets-place.is (omega arith), ← (c.loop-place.invariant.same q))
          (rw (← c.index-buckets-place.is, to_z-of_z _ _ fits) at (c.in_ok-insert.ensures.updates.0 q));
    }
