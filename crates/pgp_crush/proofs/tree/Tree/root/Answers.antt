use Rattle.std.proofs.Common.{◌≡◌, Some, arith}
use Rattle.std.proofs.lemmas.Option.{slice_get-map, slice_get-get_or}
use Rattle.pgp_crush.specs.Bucket.{bucket_of, root_of}
use Rattle.pgp_crush.specs.Tree.{buckets_of}
use Rattle.pgp_crush.proofs.TreeLemmas.{weights_fit}
use Rattle.pgp_crush.proofs.tree.Tree.root.Goals as goal

pub returns-clause-weighed : goal.returns-clause-weighed
returns-clause-weighed c =
    let found : Some (bucket_of c.index.result.now) ≡ root_of (buckets_of c.self.inside) = grind (arith, slice_get-map, slice_get-get_or) in
    weights_fit (buckets_of c.self.inside) _ (Some c.index.result) c.self.invariant.faultless found
