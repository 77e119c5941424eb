use Rattle.std.proofs.Common.{◌||◌, nat_eq, map, rules, tests}
use Rattle.std.specs.List.{list_any}
use Rattle.std.proofs.lemmas.Iterator.{YieldsList-from_slice}
use Rattle.std.proofs.lemmas.Iterator.Search.{any_from_yields_List}
use Rattle.pgp_crush.specs.Bucket.{bucket_of}
use Rattle.pgp_crush.specs.TreeFault.{reaches_kind}
use Rattle.pgp_lists.proofs.Lists.{any-mapped}
use Rattle.pgp_crush.proofs.faults.has_wrong_type.Goals as goal

pub returns : goal.returns
returns c =
    rw (any-mapped bucket_of (λ b. nat_eq b.kind 0 || list_any (reaches_kind (map bucket_of c.args.buckets.now) b.kind) b.items) c.args.buckets.now)
    (any_from_yields_List _ _ _ _ c.any.ensures.ran (YieldsList-from_slice c.args.buckets.now cc) (λ x b q k. search (rules, tests)))
