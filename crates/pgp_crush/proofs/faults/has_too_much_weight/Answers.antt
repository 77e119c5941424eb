use Rattle.std.proofs.Common.{◌-◌, ◌^◌, nat_lt, sum, rules, tests}
use Rattle.std.proofs.lemmas.Iterator.{YieldsList-from_slice}
use Rattle.std.proofs.lemmas.Iterator.Search.{any_from_yields_List}
use Rattle.pgp_crush.specs.Bucket.{bucket_of}
use Rattle.pgp_lists.proofs.Lists.{any-mapped}
use Rattle.pgp_crush.proofs.faults.has_too_much_weight.Goals as goal

pub returns : goal.returns
returns c =
    rw (any-mapped bucket_of (λ b. nat_lt (2 ^ 32 - 1) (sum b.weights)) c.args.buckets.now)
    (any_from_yields_List _ _ _ _ c.any.ensures.ran (YieldsList-from_slice c.args.buckets.now cc) (λ x b q k. search (rules, tests)))
