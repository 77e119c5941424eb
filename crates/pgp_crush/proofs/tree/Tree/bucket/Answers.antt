use Rattle.std.proofs.Common.{◌≡◌, rules}
use Rattle.std.specs.Option.{option_map, option_copied}
use Rattle.pgp_crush.specs.Bucket.{bucket_of, bucket_at}
use Rattle.pgp_crush.specs.Tree.{buckets_of}
use Rattle.pgp_crush.proofs.TreeLemmas.{weights_fit}
use Rattle.pgp_crush.proofs.tree.Tree.bucket.Goals as goal

pub returns-clause-weighed : goal.returns-clause-weighed
returns-clause-weighed c =
    let found : option_map bucket_of (option_copied c.find_bucket.result) ≡ bucket_at (buckets_of c.self.inside) c.args.id = search rules in
    weights_fit (buckets_of c.self.inside) _ c.find_bucket.result c.self.invariant.faultless found
