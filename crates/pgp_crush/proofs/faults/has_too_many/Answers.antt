use Rattle.std.proofs.Common.{◌≡◌, false, nat_lt, length, map, rules, tests, arith}
use Rattle.std.proofs.lemmas.Bool.Decides.{nat_tests}
use Rattle.std.proofs.lemmas.Iterator.{YieldsList-from_slice}
use Rattle.std.proofs.lemmas.Iterator.Search.{any_from_yields_List}
use Rattle.std.proofs.lemmas.List.{length-map}
use Rattle.pgp_crush.specs.Bucket.{bucket_of}
use Rattle.pgp_lists.proofs.Lists.{any-mapped}
use Rattle.pgp_crush.proofs.faults.has_too_many.Goals as goal

pub returns-else-buckets-gt-MAX_BUCKETS : goal.returns-else-buckets-gt-MAX_BUCKETS
returns-else-buckets-gt-MAX_BUCKETS c =
    let few : nat_lt 1024 (length (map bucket_of c.args.buckets.now)) ≡ false = grind (arith, nat_tests, length-map) in
    rw (few, any-mapped bucket_of (λ b. nat_lt 256 (length b.items)) c.args.buckets.now)
    (any_from_yields_List _ _ _ _ c.any.ensures.ran (YieldsList-from_slice c.args.buckets.now cc) (λ x b q k. search (rules, tests)))
