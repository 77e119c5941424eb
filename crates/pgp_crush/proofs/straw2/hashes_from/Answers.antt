use Rattle.std.proofs.Common.{◌<◌, length, arith, refl, ap, ◌∙◌, slice_index}
use Rattle.std.proofs.Math.ListN.{length-set}
use Rattle.pgp_hash.specs.Hash.{hash3}
use Rattle.pgp_crush.proofs.ChoiceLemmas.{filled}
use Rattle.pgp_crush.proofs.straw2.hashes_from.Goals as goal

pub loop-k-init : goal.loop-k-init
loop-k-init c = record { sized = refl; hashed = λ j below. absurd (omega arith) }

pub loop-k-preserved : goal.loop-k-preserved
loop-k-preserved c =
    let within : c.loop-k.k < length c.loop-k.hashes = omega arith in
    record {
      sized = length-set c.loop-k.hashes c.loop-k.k c.hash3.result ∙ c.loop-k.invariant.sized;
      hashed = filled (λ j. hash3 c.args.x (slice_index c.ids_from-ids.result j) c.args.r) c.loop-k.hashes c.loop-k.k c.hash3.result within c.hash3.ensures
          c.loop-k.invariant.hashed;
    }

pub returns : goal.returns
returns c = λ k below within. c.loop-k.invariant.hashed k (omega arith) ∙ ap (λ id. hash3 c.args.x id c.args.r) (c.ids_from-ids.ensures k below within)
