use Rattle.std.proofs.Common.{◌<◌, ap, arith, length, map, rules}
use Rattle.std.proofs.lemmas.List.{map_more}
use Rattle.pgp_lists.proofs.Lists.{flat_map-push}
use Rattle.pgp_crush.specs.Bucket.{bucket_of}
use Rattle.pgp_crush.specs.TreeFault.{items_of}
use Rattle.pgp_crush.proofs.FaultLemmas.{has_item}
use Rattle.pgp_crush.proofs.faults.items_of.Goals as goal

pub returns-in_err-extend_from_slice-clause-wants : goal.returns-in_err-extend_from_slice-clause-wants
returns-in_err-extend_from_slice-clause-wants c =
    let some : 0 < length c.bucket-item.result.items = omega (arith, c.in_err-extend_from_slice.ensures.full, ap length c.as_slice.ensures) in
    let filled : 0 < length (items_of (map bucket_of c.args.buckets.now)) =
    has_item c.args.buckets.now c.loop-bucket.bucket-index c.bucket-item.result (omega arith) c.bucket-item.is some in
    search rules

pub loop-bucket-preserved : goal.loop-bucket-preserved
loop-bucket-preserved c =
    rw (map_more bucket_of c.args.buckets.now c.loop-bucket.bucket-index c.bucket-item.result c.loop-bucket-test.true, flat_map-push, ← c.bucket-item.is)
    (cc (c.in_ok-extend_from_slice.ensures.items, c.as_slice.ensures, c.loop-bucket.invariant))
