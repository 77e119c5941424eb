use Rattle.std.proofs.Common.{◌≡◌, ap, sym, ◌∙◌, w32, to_z, of_z, arith}
use Rattle.std.proofs.lemmas.Int.{ints}
use Rattle.pgp_lines.specs.MadeBucket.{bucket_from}
use Rattle.pgp_lines.proofs.BucketLemmas.{bucket_of-parts}
use Rattle.pgp_lines.proofs.command.buckets.bucket_of.Goals as goal

pub returns : goal.returns
returns c =
    let same : to_z w32 (of_z w32 c.args.id) ≡ c.args.id = omega (arith, ints) in
    sym (bucket_of-parts _) ∙ ap (λ id. bucket_from id c.args.kind c.args.alg c.args.items c.args.weights) same
