use Rattle.std.proofs.Common.{FitsSigned, w32, rules}
use Rattle.std.proofs.lemmas.Int.{to_z-of_z}
use Rattle.std.proofs.lemmas.List.{map_more, map_push}
use Rattle.pgp_crush.specs.Bucket.{bucket_of}
use Rattle.pgp_crush.proofs.faults.ids_of.Goals as goal

pub loop-bucket-preserved : goal.loop-bucket-preserved
loop-bucket-preserved c =
    let fits : FitsSigned w32 c.bucket-item.result.id = search rules in
    rw (map_more bucket_of c.args.buckets.now c.loop-bucket.bucket-index c.bucket-item.result c.loop-bucket-test.true, map_push, ← c.bucket-item.is)
    (cc (c.in_ok-push.ensures.items, to_z-of_z _ _ fits, c.loop-bucket.invariant))
